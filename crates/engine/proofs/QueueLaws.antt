-- The queue: what waits, one more at its end, and the queue without some. Assumes nothing.
use Prim.Native.Nat.{ℕ, zero, suc, ◌+◌, ◌-◌, ◌≤◌, ◌<◌}
use mathlib.Core.Path.{◌≡◌, refl, sym, ap, ◌∙◌}
use mathlib.Core.Bool.{Bool, true, false, cond}
use mathlib.Core.List.{List, [], ◌∷◌, ◌++◌, append_assoc}
use native.Mathlib.Nat.{zero-add, suc-add, add-suc, add-zero, not-suc-le-zero, le_of_suc-le-suc}
use native.Mathlib.Omega.{arith}
use lib.Dec.{eqb}
use lib.ListN.{length, get_or, set, replicate, length-append, length-replicate, replicate-append-replicate, get_or-append}
use lib.Seq.{set_at, get_or_at, append_snoc}
use borrow.Author.Tests.{eqb-true, eqb-false, ne_eqb}
use Rattle.block.proofs.BoolLaws.{not_so}
use Rattle.memory.specs.Rows.{index_from, index_of, has}
use Rattle.engine.specs.Moves.{waiting, without, queue_without}
use Rattle.engine.proofs.Tests.{cond_by, bool_by, less_by, clash}
use Rattle.engine.proofs.HasLaws.{has-at, has_where}

-- ---- what waits

abbrev NoZero : List ℕ → Type 0
NoZero w = (k : ℕ) → k < length w → get_or w k 0 ≡ 0 → ⊥

pub length-waiting : (q : List ℕ) → length (waiting q) ≤ length q
unfolding waiting
length-waiting [] = omega arith
length-waiting (t ∷ ts) =
    cond_by (λ (l : List ℕ). length l ≤ length (t ∷ ts)) (eqb t 0) (λ e. omega arith) (λ e. let h = length-waiting ts in omega arith)

waiting-some : (q : List ℕ) → NoZero (waiting q)
unfolding waiting
waiting-some [] k h = absurd (not-suc-le-zero h)
waiting-some (t ∷ ts) k h = go (eqb t 0) refl (waiting-some ts) k h
  where
    go : (b : Bool) → eqb t 0 ≡ b → NoZero (waiting ts) → NoZero (cond b [] (t ∷ waiting ts))
    go true e ih k h = absurd (not-suc-le-zero h)
    go false e ih zero h = eqb-false t 0 e
    go false e ih (suc k) h = ih k (le_of_suc-le-suc h)

pub waiting-at : (q : List ℕ) (k : ℕ) → k < length (waiting q) → get_or (waiting q) k 0 ≡ get_or q k 0
unfolding waiting
waiting-at [] k h = refl
waiting-at (t ∷ ts) k h = go (eqb t 0) (waiting-at ts) k h
  where
    go : (b : Bool) → ((k : ℕ) → k < length (waiting ts) → get_or (waiting ts) k 0 ≡ get_or ts k 0)
        → (k : ℕ) → k < length (cond b [] (t ∷ waiting ts)) → get_or (cond b [] (t ∷ waiting ts)) k 0 ≡ get_or (t ∷ ts) k 0
    go true ih k h = absurd (not-suc-le-zero h)
    go false ih zero h = refl
    go false ih (suc k) h = ih k (le_of_suc-le-suc h)

-- zeros alone behind them: those before
waiting-zeros : (w : List ℕ) (n : ℕ) → NoZero w → waiting (w ++ replicate n 0) ≡ w
unfolding waiting
waiting-zeros [] zero h = refl
waiting-zeros [] (suc n) h = refl
waiting-zeros (t ∷ ts) n h = rw (ne_eqb t 0 (h 0 (omega arith)), waiting-zeros ts n (λ k u. h (suc k) (omega arith)))

first_zero : (w : List ℕ) (n i : ℕ) → NoZero w → index_from 0 (w ++ replicate (suc n) 0) i ≡ i + length w
unfolding index_from
first_zero [] n i h = sym (add-zero i)
first_zero (t ∷ ts) n i h =
    rw (ne_eqb t 0 (h 0 (omega arith)), first_zero ts n (suc i) (λ k u. h (suc k) (omega arith)), suc-add, add-suc)

-- ---- a ticket put at the first zero

-- of six places those that wait, fewer than six, and zeros behind
pub record Room (q : List ℕ) : Type 0 where
  pub zeros : q ≡ waiting q ++ replicate (6 - length (waiting q)) 0
  pub room : length (waiting q) < 6

abbrev pub joined_by : List ℕ → ℕ → List ℕ
joined_by q x = set q (index_of 0 q) x

-- the zeros left then
abbrev pub zeros_left : List ℕ → ℕ
zeros_left q = 6 - suc (length (waiting q))

module _ (q : List ℕ) (x : ℕ) (o : Room q) (some : x ≡ 0 → ⊥) where
  old-is : q ≡ waiting q ++ replicate (suc (zeros_left q)) 0
  old-is =
      let e : 6 - length (waiting q) ≡ suc (zeros_left q) = omega (arith, o.room) in
      o.zeros ∙ ap (λ (n : ℕ). waiting q ++ replicate n 0) e

  at_end : index_of 0 q ≡ length (waiting q)
  at_end = ap (λ (l : List ℕ). index_of 0 l) old-is ∙ first_zero (waiting q) (zeros_left q) 0 (waiting-some q) ∙ zero-add (length (waiting q))

  joined_is : joined_by q x ≡ waiting q ++ (x ∷ replicate (zeros_left q) 0)
  joined_is =
      ap (λ (k : ℕ). set q k x) at_end
      ∙ ap (λ (l : List ℕ). set l (length (waiting q)) x) old-is
      ∙ set_at (waiting q) 0 (replicate (zeros_left q) 0) x (length (waiting q)) refl

  snoc-is : joined_by q x ≡ (waiting q ++ (x ∷ [])) ++ replicate (zeros_left q) 0
  snoc-is = joined_is ∙ sym (append_snoc (waiting q) x (replicate (zeros_left q) 0))

  snoc-length : length (waiting q ++ (x ∷ [])) ≡ suc (length (waiting q))
  snoc-length = length-append (waiting q) (x ∷ []) ∙ omega arith

  all-some : NoZero (waiting q ++ (x ∷ []))
  all-some k h e = less_by k (length (waiting q))
      (λ u. waiting-some q k u (sym (get_or-append (waiting q) (x ∷ []) 0 k u) ∙ e))
      (λ u. some (sym (get_or_at (waiting q) x [] 0 k (omega (arith, snoc-length))) ∙ e))

  pub waiting-joined : waiting (joined_by q x) ≡ waiting q ++ (x ∷ [])
  waiting-joined = ap waiting snoc-is ∙ waiting-zeros (waiting q ++ (x ∷ [])) (zeros_left q) all-some

  pub joined_length : length (waiting (joined_by q x)) ≡ suc (length (waiting q))
  joined_length = ap length waiting-joined ∙ snoc-length

  pub joined-zeros : joined_by q x ≡ waiting (joined_by q x) ++ replicate (6 - length (waiting (joined_by q x))) 0
  joined-zeros =
      snoc-is
      ∙ ap (λ (l : List ℕ). l ++ replicate (zeros_left q) 0) (sym waiting-joined)
      ∙ ap (λ (n : ℕ). waiting (joined_by q x) ++ replicate (6 - n) 0) (sym joined_length)

  pub joined-old : (k : ℕ) → k < length (waiting q) → get_or (joined_by q x) k 0 ≡ get_or q k 0
  joined-old k h =
      ap (λ (l : List ℕ). get_or l k 0) joined_is ∙ get_or-append (waiting q) (x ∷ replicate (zeros_left q) 0) 0 k h ∙ waiting-at q k h

  pub joined-new : (k : ℕ) → k ≡ length (waiting q) → get_or (joined_by q x) k 0 ≡ x
  joined-new k e = ap (λ (l : List ℕ). get_or l k 0) joined_is ∙ get_or_at (waiting q) x (replicate (zeros_left q) 0) 0 k (sym e)

-- ---- the list without some

module _ (gone : List ℕ) where
  length_without : (l : List ℕ) → length (without gone l) ≤ length l
  unfolding without
  length_without [] = omega arith
  length_without (t ∷ ts) =
      let ih = length_without ts in
      cond_by (λ (k : List ℕ). length k ≤ length (t ∷ ts)) (has t gone) (λ e. omega arith) (λ e. omega arith)

  pub without-append : (a b : List ℕ) → without gone (a ++ b) ≡ without gone a ++ without gone b
  unfolding without
  without-append [] b = refl
  without-append (t ∷ ts) b = bool_by (has t gone) (λ e. rw e (without-append ts b)) (λ e. rw (e, without-append ts b))

  without-zeros : has 0 gone ≡ false → (n : ℕ) → without gone (replicate n 0) ≡ replicate n 0
  unfolding without
  without-zeros e zero = refl
  without-zeros e (suc n) = rw (e, without-zeros e n)

  has-without : (x : ℕ) (l : List ℕ) → has x gone ≡ false → has x l ≡ true → has x (without gone l) ≡ true
  unfolding without has
  has-without x [] n e = e
  has-without x (t ∷ ts) n e = go (has t gone) refl (eqb t x) refl e (has-without x ts n)
    where
      go : (b : Bool) → has t gone ≡ b → (c : Bool) → eqb t x ≡ c → cond c true (has x ts) ≡ true → (has x ts ≡ true → has x (without gone ts) ≡ true)
          → has x (cond b (without gone ts) (t ∷ without gone ts)) ≡ true
      go true p true q h ih = clash (rw (eqb-true t x q) at p) n
      go true p false q h ih = ih h
      go false p true q h ih = rw q
      go false p false q h ih = rw q (ih h)

  without-has : (x : ℕ) (l : List ℕ) → has x (without gone l) ≡ true → (has x l ≡ true) × (has x gone ≡ false)
  unfolding without has
  without-has x [] e = clash {b = false} e refl
  without-has x (t ∷ ts) e = go (has t gone) refl e (without-has x ts)
    where
      kept : has t gone ≡ false → (c : Bool) → eqb t x ≡ c → cond c true (has x (without gone ts)) ≡ true
          → (has x (without gone ts) ≡ true → (has x ts ≡ true) × (has x gone ≡ false)) → (cond c true (has x ts) ≡ true) × (has x gone ≡ false)
      kept p true q h ih = (refl, rw (eqb-true t x q) at p)
      kept p false q h ih = ih h

      skip : (c : Bool) → (has x ts ≡ true) × (has x gone ≡ false) → (cond c true (has x ts) ≡ true) × (has x gone ≡ false)
      skip true h = (refl, h.1)
      skip false h = h

      go : (b : Bool) → has t gone ≡ b → has x (cond b (without gone ts) (t ∷ without gone ts)) ≡ true
          → (has x (without gone ts) ≡ true → (has x ts ≡ true) × (has x gone ≡ false)) → (cond (eqb t x) true (has x ts) ≡ true) × (has x gone ≡ false)
      go true p h ih = skip (eqb t x) (ih h)
      go false p h ih = kept p (eqb t x) refl h ih

-- ---- each once

unfoldable Once : List ℕ → Type 0
Once [] = Unit
Once (x ∷ xs) = (has x xs ≡ false) × Once xs

once_list : (l : List ℕ) → ((j k : ℕ) → j < k → k < length l → get_or l j 0 ≡ get_or l k 0 → ⊥) → Once l
unfolding Once
once_list [] f = tt
once_list (x ∷ xs) f = (
  not_so (has x xs) (λ e. let w = has_where x xs e in f 0 (suc w.place) (omega arith) (omega (arith, w.within)) (sym w.is)),
  once_list xs (λ j k h l e. f (suc j) (suc k) (omega arith) (omega arith) e),
)

once-at : (l : List ℕ) → Once l → (j k : ℕ) → j < k → k < length l → get_or l j 0 ≡ get_or l k 0 → ⊥
unfolding Once
once-at [] u j k h l e = not-suc-le-zero l
once-at (x ∷ xs) u j zero h l e = not-suc-le-zero h
once-at (x ∷ xs) u zero (suc k) h l e = clash (has-at _ xs k (le_of_suc-le-suc l) refl) (rw e at u.0)
once-at (x ∷ xs) u (suc j) (suc k) h l e = once-at xs u.1 j k (le_of_suc-le-suc h) (le_of_suc-le-suc l) e

once-without : (gone l : List ℕ) → Once l → Once (without gone l)
unfolding Once without
once-without gone [] u = tt
once-without gone (t ∷ ts) u =
    cond_by Once (has t gone) (λ e. once-without gone ts u.1)
    (λ e. (not_so (has t (without gone ts)) (λ h. clash (without-has gone t ts h).0 u.0), once-without gone ts u.1))

-- ---- a queue without some

pub length-queue_without : (gone q : List ℕ) → length (queue_without gone q) ≡ length q
length-queue_without gone q = let h = length_without gone q in simp (length-append, length-replicate) (omega arith)

-- a queue of six without some: its front without them, and zeros behind
queue_without_lem : (gone w q : List ℕ) → has 0 gone ≡ false → length w ≤ 6 → length q ≡ 6 → q ≡ w ++ replicate (6 - length w) 0
    → queue_without gone q ≡ without gone w ++ replicate (6 - length (without gone w)) 0
queue_without_lem gone w q z h l e =
    let rest : without gone q ≡ without gone w ++ replicate (6 - length w) 0 =
    ap (without gone) e ∙ without-append gone w (replicate (6 - length w) 0) ∙ ap (λ (k : List ℕ). without gone w ++ k) (without-zeros gone z (6 - length w)) in
    let a = length_without gone w in
    let b : length (without gone w ++ replicate (6 - length w) 0) ≡ length (without gone w) + (6 - length w) = simp (length-append, length-replicate) in
    let c : 6 - length w + (length q - length (without gone w ++ replicate (6 - length w) 0)) ≡ 6 - length (without gone w) = omega arith in
    rw (rest, append_assoc, replicate-append-replicate, c)

-- what is left of a queue
pub record Left (gone q left : List ℕ) : Type 0 where
  pub zeros : left ≡ waiting left ++ replicate (6 - length (waiting left)) 0
  pub from : (k : ℕ) → k < length (waiting left) → (j : ℕ) × (j < length (waiting q)) × (get_or q j 0 ≡ get_or left k 0) × (has (get_or q j 0) gone ≡ false)
  pub to : (x : ℕ) → has x gone ≡ false → has x (waiting q) ≡ true → has x (waiting left) ≡ true
  pub once : (j k : ℕ) → j < k → k < length (waiting left) → get_or left j 0 ≡ get_or left k 0 → ⊥

module _ (gone q left : List ℕ) (z : has 0 gone ≡ false) (six : length q ≡ 6) (few : length (waiting q) ≤ 6)
    (zeros : q ≡ waiting q ++ replicate (6 - length (waiting q)) 0)
    (once : (j k : ℕ) → j < k → k < length (waiting q) → get_or q j 0 ≡ get_or q k 0 → ⊥) (is : left ≡ queue_without gone q) where
  abbrev pub front : List ℕ
  front = without gone (waiting q)

  whole : left ≡ front ++ replicate (6 - length front) 0
  whole = is ∙ queue_without_lem gone (waiting q) q z few six zeros

  found : (k : ℕ) → k < length front → (j : ℕ) × (j < length (waiting q)) × (get_or (waiting q) j 0 ≡ get_or front k 0) × (has (get_or front k 0) gone ≡ false)
  found k h =
      let a = without-has gone (get_or front k 0) (waiting q) (has-at _ front k h refl) in
      let w = has_where (get_or front k 0) (waiting q) a.0 in
      (w.place, w.within, w.is, a.1)

  pub front-is : waiting left ≡ front
  front-is = ap waiting whole ∙ waiting-zeros front (6 - length front) (λ k h e. let f = found k h in waiting-some q f.0 f.1 (f.2 ∙ e))

  front_at : (k : ℕ) → k < length front → get_or left k 0 ≡ get_or front k 0
  front_at k h = ap (λ (l : List ℕ). get_or l k 0) whole ∙ get_or-append front (replicate (6 - length front) 0) 0 k h

  pub queue-left : Left gone q left
  queue-left = record {
    zeros = rw front-is whole;
    from = rw front-is (λ k h. let f = found k h in let e = sym (waiting-at q f.0 f.1) ∙ f.2 in (f.0, f.1, e ∙ sym (front_at k h), rw e f.3));
    to = λ x n h. rw front-is (has-without gone x (waiting q) n h);
    once = rw front-is (λ j k h l e.
        once-at front (once-without gone (waiting q) (once_list (waiting q) (λ a b u v s. once a b u v (sym (waiting-at q a (omega arith)) ∙ s ∙ waiting-at q b v))))
        j k h l (sym (front_at j (omega arith)) ∙ e ∙ front_at k l));
  }
