-- The premise on each call as tests that a run computes. Assumes nothing.
use Prim.Native.Nat.{ℕ}
use mathlib.Core.Path.{◌≡◌, refl, sym, ap, subst}
use mathlib.Core.Bool.{Bool, true, false, cond, not, ◌&&◌}
use mathlib.Core.List.{List, [], ◌∷◌, ◌++◌}
use lib.Dec.{ltb, leb, eqb}
use native.Mathlib.Omega.{arith}
use lib.IntN.{ℤ, pos, negsuc}
use lib.ListN.{length, take}
use borrow.Author.Tests.{eq-eqb, eqb-true, leb-true, ltb-true, not-false}
use Rattle.block.specs.Message.{signed32}
use Rattle.block.proofs.BoolLaws.{both}
use Rattle.memory.specs.Memory.{Memory}
use Rattle.memory.specs.Notices.{Notice}
use Rattle.engine.specs.Answers.{Answer, Outcome, number_of}
use Rattle.engine.specs.Answers.Answer.{refused, made, began, got, wrote, queued, read_only, withdrew, reported, sent, kept, worked, loaded, noticed, restarted}
use Rattle.engine.specs.Moves.{same_bytes}
use Rattle.engine.specs.Calls.{Call, step}
use Rattle.engine.specs.Calls.Call.{deliver}
use Rattle.engine.specs.Restart.{restart_refusal, restart_step}
use Rattle.engine.specs.History.{AnyCall}
use Rattle.engine.specs.History.AnyCall.{call, restart}
use Rattle.engine.proofs.Tests.{clash}
use Rattle.engine.proofs.Steps.{restart-by}
use Rattle.protocol.specs.Lists.{Mem, any_of}
use Rattle.protocol.proofs.ListLaws.{any-true, any_false}
use Rattle.agreement.specs.Group.{arguments_of, Disk, journal_after, Members, CallAt, fresh, run, did, next, Comes, MayBeAt, Calls, Lent, PremiseFrom}
use Rattle.agreement_runs.specs.Worked.{numbers}

-- ---- equal things

pub same_bytes_lem : (a b : List ℕ) → same_bytes a b ≡ true → a ≡ b
unfolding same_bytes
same_bytes_lem [] [] e = refl
same_bytes_lem [] (y ∷ ys) e = clash {b = false} e refl
same_bytes_lem (x ∷ xs) [] e = clash {b = false} e refl
same_bytes_lem (x ∷ xs) (y ∷ ys) e =
    let h = both (eqb x y) (same_bytes xs ys) e in
    rw (eqb-true x y h.left, same_bytes_lem xs ys h.right)

-- a block among those handed out
pub among : (b : List ℕ) (B : List (List ℕ)) → any_of (same_bytes b) B ≡ true → Mem b B
among b B e = let m = any-true (same_bytes b) B e in subst (λ (x : List ℕ). Mem x B) (sym (same_bytes_lem b m.0 m.1.1)) m.1.0

abbrev same_value : ℤ → ℤ → Bool
same_value (pos a) (pos b) = eqb a b
same_value (pos a) (negsuc b) = false
same_value (negsuc a) (pos b) = false
same_value (negsuc a) (negsuc b) = eqb a b

unfoldable pub same_values : List ℤ → List ℤ → Bool
same_values [] [] = true
same_values [] (y ∷ ys) = false
same_values (x ∷ xs) [] = false
same_values (x ∷ xs) (y ∷ ys) = same_value x y && same_values xs ys

same_value_lem : (a b : ℤ) → same_value a b ≡ true → a ≡ b
same_value_lem (pos a) (pos b) e = ap pos (eqb-true a b e)
same_value_lem (pos a) (negsuc b) e = clash {b = false} e refl
same_value_lem (negsuc a) (pos b) e = clash {b = false} e refl
same_value_lem (negsuc a) (negsuc b) e = ap negsuc (eqb-true a b e)

same-values : (a b : List ℤ) → same_values a b ≡ true → a ≡ b
unfolding same_values
same-values [] [] e = refl
same-values [] (y ∷ ys) e = clash {b = false} e refl
same-values (x ∷ xs) [] e = clash {b = false} e refl
same-values (x ∷ xs) (y ∷ ys) e =
    let h = both (same_value x y) (same_values xs ys) e in
    rw (same_value_lem x y h.left, same-values xs ys h.right)

abbrev same_kind : Bool → Bool → Bool
same_kind a b = cond a b (not b)

same_kind_lem : (a b : Bool) → same_kind a b ≡ true → a ≡ b
same_kind_lem true true e = refl
same_kind_lem true false e = clash {b = false} e refl
same_kind_lem false true e = clash {b = false} e refl
same_kind_lem false false e = refl

abbrev pub same_notice : Notice → Notice → Bool
same_notice a b = eqb a.about b.about && (same_kind a.out b.out && eqb a.slot b.slot)

pub same_notice_lem : (a b : Notice) → same_notice a b ≡ true → a ≡ b
same_notice_lem a b e =
    let h = both (eqb a.about b.about) (same_kind a.out b.out && eqb a.slot b.slot) e in
    let k = both (same_kind a.out b.out) (eqb a.slot b.slot) h.right in
    λ i. record { about = eqb-true a.about b.about h.left i; out = same_kind_lem a.out b.out k.left i; slot = eqb-true a.slot b.slot k.right i }

unfoldable pub same_notices : List Notice → List Notice → Bool
same_notices [] [] = true
same_notices [] (y ∷ ys) = false
same_notices (x ∷ xs) [] = false
same_notices (x ∷ xs) (y ∷ ys) = same_notice x y && same_notices xs ys

same_notices_lem : (a b : List Notice) → same_notices a b ≡ true → a ≡ b
unfolding same_notices
same_notices_lem [] [] e = refl
same_notices_lem [] (y ∷ ys) e = clash {b = false} e refl
same_notices_lem (x ∷ xs) [] e = clash {b = false} e refl
same_notices_lem (x ∷ xs) (y ∷ ys) e =
    let h = both (same_notice x y) (same_notices xs ys) e in
    rw (same_notice_lem x y h.left, same_notices_lem xs ys h.right)

-- ---- of each call

-- a block that is kept is one of those handed out
abbrev known : List (List ℕ) → AnyCall → Answer → Bool
known B c (refused n) = true
known B c made = true
known B c (began t) = true
known B c (got v) = true
known B c wrote = true
known B c queued = true
known B c read_only = true
known B c withdrew = true
known B c (reported r) = true
known B c (sent b) = true
known B c kept = any_of (same_bytes (arguments_of c).bytes) B
known B c (worked s) = true
known B c loaded = true
known B c noticed = true
known B c (restarted k b) = true

-- for each accepted restart of a list, the call that the cut ended, and how many bytes it left
pub record Cut : Type 0 where
  ended : Call
  count : ℕ

abbrev pub cut : Call → ℕ → Cut
cut c n = record { ended = c; count = n }

abbrev lent_after : Memory → Disk → List ℕ → Cut → Bool
lent_after m d journal h =
    signed32 (arguments_of (call h.ended)).value
    && (same_bytes journal (take h.count (journal_after d.journal (call h.ended) (step m h.ended).answer)) && leb d.floor (length journal))

abbrev accepts : Memory → AnyCall → Bool
accepts m (call c) = false
accepts m (restart size own values j a l) = eqb (restart_refusal m size own values l) 0

abbrev cuts_left : Memory → AnyCall → List Cut → List Cut
cuts_left m c [] = []
cuts_left m c (h ∷ hs) = cond (accepts m c) hs (h ∷ hs)

-- of a list: whether each call meets the premise, the numbers they are answered with, and the group left
pub record Walked : Type 0 where
  pub fine : Bool
  pub numbers : List ℕ
  pub end : Members

module _ (n : ℕ) (start : List ℤ) where
  abbrev lent_now : Members → ℕ → AnyCall → Cut → Bool
  lent_now g k (call c) h = true
  lent_now g k (restart size own values j a l) h =
      (eqb size n && (eqb own k && same_values values start)) && (same_notices a (g.taken k) && lent_after (g.memories k) (g.disks k) j h)

  -- an accepted restart needs a cut
  abbrev lent_in : Members → ℕ → AnyCall → List Cut → Bool
  lent_in g k c [] = not (accepts (g.memories k) c)
  lent_in g k c (h ∷ hs) = cond (accepts (g.memories k) c) (lent_now g k c h) true

  abbrev LentAt : Members → ℕ → ℕ → ℕ → List ℤ → List ℕ → List Notice → Type 0
  LentAt g k size own values j a = (size ≡ n) × (own ≡ k) × (values ≡ start) × Lent (g.memories k) (g.disks k) j × (a ≡ g.taken k)

  lent_by : (g : Members) (k size own : ℕ) (values : List ℤ) (j : List ℕ) (a : List Notice) (l : List ℕ) (hs : List Cut) → lent_in g k (restart size own values j a l) hs ≡ true
      → restart_refusal (g.memories k) size own values l ≡ 0 → LentAt g k size own values j a
  lent_by g k size own values j a l [] e z = clash {b = false} (rw (eq-eqb (restart_refusal (g.memories k) size own values l) 0 z) at e) refl
  lent_by g k size own values j a l (h ∷ hs) e z =
      let t : lent_now g k (restart size own values j a l) h ≡ true = rw (eq-eqb (restart_refusal (g.memories k) size own values l) 0 z) at e in
      let u = both (eqb size n && (eqb own k && same_values values start)) _ t in
      let v = both (eqb size n) (eqb own k && same_values values start) u.left in
      let w = both (eqb own k) (same_values values start) v.right in
      let x = both (same_notices a (g.taken k)) _ u.right in
      let y = both (signed32 (arguments_of (call h.ended)).value) _ x.right in
      let b = both (same_bytes j _) _ y.right in (
        eqb-true size n v.left,
        eqb-true own k w.left,
        same-values values start w.right,
        record { ended = h.ended; value = y.left; count = h.count; part = same_bytes_lem _ _ b.left; enough = leb-true _ _ b.right },
        same_notices_lem a (g.taken k) x.left,
      )

  accepted-lent : (g : Members) (k size own : ℕ) (values : List ℤ) (j : List ℕ) (a : List Notice) (l : List ℕ) (hs : List Cut) → lent_in g k (restart size own values j a l) hs ≡ true → (x : ℕ) (b : List ℕ)
      → (restart_step (g.memories k) size own values j a l).answer ≡ restarted x b → LentAt g k size own values j a
  accepted-lent g k size own values j a l hs e x b =
      restart-by (λ (o : Outcome). o.answer ≡ restarted x b → LentAt g k size own values j a) (g.memories k) size own values j a l
      (λ z q. lent_by g k size own values j a l hs e z)
      (λ z q. let w : ◌≡◌ {A = ℕ} 0 1 = cc in absurd (let y : ⊥ = omega arith in y))

  unfoldable pub walk : Members → List CallAt → List Cut → Walked
  walk g [] hs = record { fine = true; numbers = []; end = g }
  walk g (c ∷ cs) hs =
      let w = walk (next g c) cs (cuts_left (g.memories c.at) c.does hs) in
      record {
        fine = (known g.blocks c.does (did g c).answer && lent_in g c.at c.does hs) && w.fine;
        numbers = number_of (did g c).answer ∷ w.numbers;
        end = w.end;
      }

  walk_end : (cs : List CallAt) (g : Members) (hs : List Cut) → (walk g cs hs).end ≡ run g cs
  unfolding walk run
  walk_end [] g hs = refl
  walk_end (c ∷ cs) g hs = walk_end cs (next g c) (cuts_left (g.memories c.at) c.does hs)

  pub walk-numbers : (cs : List CallAt) (g : Members) (hs : List Cut) → (walk g cs hs).numbers ≡ numbers g cs
  unfolding walk numbers
  walk-numbers [] g hs = refl
  walk-numbers (c ∷ cs) g hs = ap (λ (l : List ℕ). number_of (did g c).answer ∷ l) (walk-numbers cs (next g c) (cuts_left (g.memories c.at) c.does hs))

  -- without restarts, by parts
  pub walk-on : (a b : List CallAt) (g : Members) → (walk g (a ++ b) []).end ≡ (walk (walk g a []).end b []).end
  unfolding walk
  walk-on [] b g = refl
  walk-on (c ∷ a) b g = walk-on a b (next g c)

  pub walk-parts : (a b : List CallAt) (g : Members) → (walk g a []).fine ≡ true → (walk (walk g a []).end b []).fine ≡ true → (walk g (a ++ b) []).fine ≡ true
  unfolding walk
  walk-parts [] b g e f = f
  walk-parts (c ∷ a) b g e f =
      let h = both (known g.blocks c.does (did g c).answer && lent_in g c.at c.does []) (walk (next g c) a []).fine e in
      rw h.left (walk-parts a b (next g c) h.right f)

  record MetAt (g : Members) (c : CallAt) : Type 0 where
    delivers : known g.blocks c.does (did g c).answer ≡ true
    left : List Cut
    restarts : lent_in g c.at c.does left ≡ true

  met_at : (before : List CallAt) (c : CallAt) (rest : List CallAt) (g : Members) (hs : List Cut) → (walk g (before ++ (c ∷ rest)) hs).fine ≡ true → MetAt (run g before) c
  unfolding walk run
  met_at [] c rest g hs e = let a = both (known g.blocks c.does (did g c).answer) _ (both _ _ e).left in record { delivers = a.left; left = hs; restarts = a.right }
  met_at (b ∷ before) c rest g hs e =
      met_at before c rest (next g b) (cuts_left (g.memories b.at) b.does hs) (both (known g.blocks b.does (did g b).answer && lent_in g b.at b.does hs) _ e).right

  abbrev pub walked : List CallAt → List Cut → Walked
  walked cs hs = walk (fresh n start) cs hs

  pub end_is : (cs : List CallAt) (hs : List Cut) → (walked cs hs).end ≡ run (fresh n start) cs
  end_is cs hs = walk_end cs (fresh n start) hs

  pub calls-premise : (cs : List CallAt) (hs : List Cut) → (walked cs hs).fine ≡ true → PremiseFrom n start (fresh n start) cs
  calls-premise cs hs e = record {
    delivered = λ before k bytes h a.
        among bytes _ (subst (λ (o : Answer). known (run (fresh n start) before).blocks (call (deliver bytes)) o ≡ true) a (at before _ h).delivers);
    lent = λ before k size own values j a l x b h. let p = at before _ h in accepted-lent (run (fresh n start) before) k size own values j a l p.left p.restarts x b;
  }
    where
      at : (before : List CallAt) (c : CallAt) → Comes cs before c → MetAt (run (fresh n start) before) c
      at before c h = met_at before c h.0 (fresh n start) hs (subst (λ (l : List CallAt). (walk (fresh n start) l hs).fine ≡ true) h.1 e)

-- a restart is a replica's
abbrev here_in : ℕ → ℕ → AnyCall → Bool
here_in n k (call c) = true
here_in n k (restart size own values j a l) = ltb k n

here_by : (n k : ℕ) (c : AnyCall) → here_in n k c ≡ true → MayBeAt n k c
here_by n k (call c) e = tt
here_by n k (restart size own values j a l) e = ltb-true k n e

abbrev pub astray : ℕ → CallAt → Bool
astray n c = not (here_in n c.at c.does && signed32 (arguments_of c.does).value)

pub calls_met : (n : ℕ) (cs : List CallAt) → any_of (astray n) cs ≡ false → Calls n cs
calls_met n cs e c m =
    let h = both (here_in n c.at c.does) (signed32 (arguments_of c.does).value) (not-false _ (any_false (astray n) cs e c m)) in
    (here_by n c.at c.does h.left, h.right)
