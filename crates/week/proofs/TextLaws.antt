-- How long the lines are that a week prints, and that they are put whole. Assumes nothing.
use Prim.Native.Nat.{ℕ, zero, suc, ◌+◌, ◌-◌, ◌*◌, ◌/◌, ◌%◌, ◌≤◌, ◌<◌}
use mathlib.Core.Path.{◌≡◌, refl, sym, ap, ◌∙◌}
use mathlib.Core.Bool.{Bool, true, false, cond}
use mathlib.Core.List.{List, [], ◌∷◌, ◌++◌, append_assoc, append-nil}
use native.Mathlib.Nat.{add-zero, add_assoc}
use native.Mathlib.Numerals.{add-one}
use native.Mathlib.Omega.{arith}
use borrow.Rule.Slice.PartMut.{mid_of, post_of, put_mid}
use lib.Dec.{ltb}
use lib.ListN.{length, get_or, take, drop, length-append, length-take, length-drop}
use lib.Seq.{take_all, take-append-add, take-append_seam, length-take-le}
use Rattle.replay_print.specs.Text.{decimal_within, each, answer_text, Holds}
use Rattle.replay_replica.specs.declared.Replica.{Replica}
use Rattle.replay_replica.specs.Effects.{no_replica}
use Rattle.text_lines.specs.declared.output.Output.{Output}
use Rattle.text_lines.specs.Outputs.{with_line}
use Rattle.week.specs.Texts.{number_text, row_of, rows_text, HasRoom, with_text, Prints}

-- ---- lengths

one_more : (b : Bool) (x y k : ℕ) (l : List ℕ) → length l ≤ k → length (cond b (x ∷ []) (l ++ (y ∷ []))) ≤ suc k
one_more true x y k l h = omega arith
one_more false x y k l h = simp length-append (omega (arith, h))

decimal-few : (k n : ℕ) → length (decimal_within k n) ≤ k
unfolding decimal_within
decimal-few zero n = omega arith
decimal-few (suc k) n = one_more (ltb n 10) (48 + n) (48 + n % 10) k (decimal_within k (n / 10)) (decimal-few k (n / 10))

number-few : (n : ℕ) → length (number_text n) ≤ 21
unfolding each
number-few n = simp length-append (omega (arith, decimal-few 20 n))

line_few : (k a b c : ℕ) → length (answer_text k (a ∷ (b ∷ (c ∷ []))) [] []) ≤ 84
unfolding each
line_few k a b c = simp length-append (omega (arith, decimal-few 20 k, decimal-few 20 a, decimal-few 20 b, decimal-few 20 c))

row-few : (k : ℕ) (replica : Replica) → length (row_of k replica) ≤ 84
row-few k replica = line_few k _ _ _

pub row_count : (k : ℕ) (replica : Replica) {b ys : List ℕ} {n : ℕ} → Holds b (row_of k replica) ys n → n ≤ 84
row_count k replica h = omega (arith, h.count, row-few k replica)

module _ (l : List Replica) where
  rows_few : (k : ℕ) → length (rows_text l k) ≤ 84 * k
  unfolding rows_text
  rows_few zero = omega arith
  rows_few (suc k) =
      let next = row_of k (get_or l k no_replica) in
      rw (length-append (rows_text l k) next) (omega (arith, rows_few k, row-few k (get_or l k no_replica)))

  rows_none : rows_text l 0 ≡ []
  unfolding rows_text
  rows_none = refl

  rows_next : (k : ℕ) → rows_text l (k + 1) ≡ rows_text l k ++ row_of k (get_or l k no_replica)
  unfolding rows_text
  rows_next k = rw (add-one k) refl

-- ---- put whole

module _ (out text : List ℕ) (held : ℕ) where
  -- what lies behind the text
  rest : List ℕ
  rest = drop (length text) (mid_of held (length out - held) out) ++ post_of held (length out - held) out

  module _ (ys : List ℕ) (n : ℕ) (room : held + length text ≤ length out) (h : Holds (mid_of held (length out - held) out) text ys n) where
    mid-few : length (mid_of held (length out - held) out) ≡ length out - held
    mid-few = simp (length-take, length-drop) (omega arith)

    put_count : n ≡ length text
    put_count = omega (arith, h.count, mid-few)

    put-bytes : ys ++ post_of held (length out - held) out ≡ text ++ rest
    unfolding rest
    put-bytes =
        let e : take (length (mid_of held (length out - held) out)) text ≡ text = take_all (length (mid_of held (length out - held) out)) text (omega (arith, mid-few)) in
        let b : ys ≡ text ++ drop (length text) (mid_of held (length out - held) out) = rw e at h.bytes in
        ap (λ (l : List ℕ). l ++ post_of held (length out - held) out) b ∙ append_assoc text _ _

    put_whole : take (held + n) (put_mid held (length out - held) out ys) ≡ take held out ++ text
    put_whole =
        let e : length (take held out) ≡ held = length-take-le held out (omega arith) in
        let s : take n (text ++ rest) ≡ text = ap (λ (k : ℕ). take k (text ++ rest)) put_count ∙ take-append_seam text rest in
        ap (λ (l : List ℕ). take (held + n) (take held out ++ l)) put-bytes ∙ (rw e at (take-append-add (take held out) (text ++ rest) n)) ∙ ap (λ (t : List ℕ). take held out ++ t) s

-- ---- a number

pub number_put : (o : Output) (number : ℕ) (out ys : List ℕ) (n : ℕ) (r : Output) → HasRoom o out → Holds (mid_of o.held (length out - o.held) out) (number_text number) ys n → r ≡ with_line o n
    → (r ≡ with_line o (length (number_text number))) × Prints (number_text number) o out r (put_mid o.held (length out - o.held) out ys)
number_put o number out ys n r room h e =
    let f : o.held + length (number_text number) ≤ length out = omega (arith, room.0, room.1, number-few number) in
    let c = put_count out (number_text number) o.held ys n f h in
    let g : r.held ≡ o.held + n = omega (arith, ap (λ (x : Output). x.held) e, c, f, room.1) in
    (e ∙ ap (λ (k : ℕ). with_line o k) c, ap (λ (k : ℕ). take k (put_mid o.held (length out - o.held) out ys)) g ∙ put_whole out (number_text number) o.held ys n f h)

-- ---- the table

abbrev with_held : Output → ℕ → Output
with_held o k = record { held = k; answered = o.answered; written = o.written; failed = o.failed }

more_text : (o after : Output) (t u : List ℕ) (n : ℕ) → after ≡ with_text o t → n ≡ length u → with_held after (after.held + n) ≡ with_text o (t ++ u)
more_text o after t u n e c = rw (e, c, length-append t u) (ap (with_held o) (add_assoc o.held (length t) (length u)))

module _ (l : List Replica) (o : Output) (out₀ : List ℕ) (room : HasRoom o out₀) (k : ℕ) (after : Output) (e : after ≡ with_text o (rows_text l k)) where
  pub rows-held : k ≤ 4 → after.held ≤ 61776
  rows-held h = omega (arith, ap (λ (x : Output). x.held) e, rows_few l k, room.0, h)

  pub rows-turn : (out ys : List ℕ) (n : ℕ) (replica : Replica) → k < 4 → length out ≡ 65536 → Prints (rows_text l k) o out₀ after out → replica ≡ get_or l k no_replica
      → Holds (mid_of after.held (length out - after.held) out) (row_of k replica) ys n
      → (with_held after (after.held + n) ≡ with_text o (rows_text l (k + 1)))
      × (take (after.held + n) (put_mid after.held (length out - after.held) out ys) ≡ take o.held out₀ ++ rows_text l (k + 1))
  rows-turn out ys n replica small len p i h =
      let f : after.held + length (row_of k replica) ≤ length out = omega (arith, rows-held (omega (arith, small)), row-few k replica, len) in
      let q : rows_text l k ++ row_of k replica ≡ rows_text l (k + 1) = ap (λ (x : Replica). rows_text l k ++ row_of k x) i ∙ sym (rows_next l k) in (
        more_text o after (rows_text l k) (row_of k replica) n e (put_count out (row_of k replica) after.held ys n f h) ∙ ap (λ (t : List ℕ). with_text o t) q,
        put_whole out (row_of k replica) after.held ys n f h ∙ ap (λ (t : List ℕ). t ++ row_of k replica) p ∙ append_assoc (take o.held out₀) (rows_text l k) (row_of k replica) ∙ ap (λ (t : List ℕ). take o.held out₀ ++ t) q,
      )

-- ---- nothing more

pub puts_none : (o : Output) (out : List ℕ) → (o ≡ with_text o []) × Prints [] o out o out
puts_none o out = (ap (with_held o) (sym (add-zero o.held)), sym (append-nil (take o.held out)))

pub rows_start : (l : List Replica) (o : Output) (out : List ℕ) → (o ≡ with_text o (rows_text l 0)) × Prints (rows_text l 0) o out o out
rows_start l o out = rw (rows_none l) (puts_none o out)
