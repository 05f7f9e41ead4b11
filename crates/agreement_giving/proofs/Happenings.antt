-- Lists of calls with givings: their calls, premise and agreement. Assumes nothing.
use Prim.Native.Nat.{ℕ}
use mathlib.Core.Path.{◌≡◌, refl, sym, ap, ◌∙◌, subst}
use mathlib.Core.Bool.{true}
use mathlib.Core.Logic.{◌⊎◌, inl, inr}
use mathlib.Core.List.Memᴰ
use mathlib.Core.List.{List, [], ◌∷◌, ◌++◌, append_assoc, append-nil}
use native.Mathlib.Omega.{arith}
use lib.IntN.{ℤ}
use lib.ListN.{length, take, drop, take-append-drop}
use Rattle.block.specs.Message.{signed32}
use Rattle.engine.specs.Make.{Setting}
use Rattle.engine.specs.Calls.{Call}
use Rattle.engine.specs.History.{AnyCall}
use Rattle.engine.specs.History.AnyCall.{call}
use Rattle.protocol.specs.Lists.{Mem}
use Rattle.protocol.proofs.ListLaws.{map-all}
use Rattle.protocol.proofs.SequenceLaws.{map-append}
use Rattle.agreement.specs.Group.{arguments_of, Members, CallAt, fresh, run, MayBeAt, Calls, PremiseFrom, Premise}
use Rattle.agreement.proofs.Runs.{premise-part}
use Rattle.agreement.proofs.Theorem.{agreement}
use Rattle.agreement_progress.proofs.Parts.{walk}
use Rattle.giving.proofs.Givings.{GivenCall, givings}
use Rattle.agreement_giving.specs.Givings.{giver_at, give_at, calls_at, Happening, single, give, cut, called_in, expand, list_of, group_of, HappeningIn, Happenings, Happens, GivingPremise, GivingsTheorem}
use Rattle.agreement_giving.proofs.Lists.{run-append, premise-on}
use Rattle.agreement_giving.proofs.Givings.{give-same, give-sofar}

-- ---- the calls are the group's

abbrev In : ℕ → CallAt → Type 0
In n c = MayBeAt n c.at c.does × (signed32 (arguments_of c.does).value ≡ true)

value_of : (c : Call) (lent : List ℕ) → GivenCall lent c → signed32 (arguments_of (call c)).value ≡ true
unfolding signed32
value_of c lent (inl e) = rw e refl
value_of c lent (inr q) = rw q.1 refl

-- those of a giving
given_in : (n : ℕ) (g : Members) (k : ℕ) (told : List ℕ) (c : Call) → Mem c (give_at g k told).calls → In n (record { at = k; does = call c })
given_in n g k told c q =
    let lent = (g.memories (giver_at g k told)).blocks.window in
    (tt, value_of c lent (givings.calls (g.memories k) told lent c q))

called_in_lem : (n : ℕ) (g : Members) (h : Happening) → HappeningIn n h → (c : CallAt) → Mem c (called_in g h) → In n c
called_in_lem n g (single d) i c m = go (Memᴰ.cases_cons m)
  where
    go : (c ≡ d) ⊎ Mem c [] → In n c
    go (inl e) = rw e i
    go (inr q) = absurd (Memᴰ.not-nil q)
called_in_lem n g (give k told) i c m = map-all (In n) (λ (x : Call). record { at = k; does = call x }) (give_at g k told).calls (given_in n g k told) c m
called_in_lem n g (cut k told count) i c m =
    map-all (In n) (λ (x : Call). record { at = k; does = call x }) (take count (give_at g k told).calls)
    (λ x q. given_in n g k told x (subst (Mem x) (take-append-drop count (give_at g k told).calls) (Memᴰ.append_left (drop count (give_at g k told).calls) q))) c m

pub expand-calls : (n : ℕ) (hs : List Happening) → Happenings n hs → (g : Members) → Calls n (expand g hs)
unfolding expand
expand-calls n [] f g c m = absurd (Memᴰ.not-nil m)
expand-calls n (h ∷ hs) f g c m = go (Memᴰ.append_cases (called_in g h) m) (expand-calls n hs (λ x q. f x (Memᴰ.tail q)) (run g (called_in g h)) c)
  where
    go : Mem c (called_in g h) ⊎ Mem c (expand (run g (called_in g h)) hs) → (Mem c (expand (run g (called_in g h)) hs) → In n c) → In n c
    go (inl q) r = called_in_lem n g h (f h (Memᴰ.head refl)) c q
    go (inr q) r = r q

-- ---- one more at the end

pub expand_on : (hs : List Happening) (g : Members) (h : Happening) → expand g (hs ++ (h ∷ [])) ≡ expand g hs ++ called_in (run g (expand g hs)) h
unfolding expand run
expand_on [] g h = append-nil (called_in g h)
expand_on (x ∷ hs) g h =
    let cs = called_in g x in
    let e = expand (run g (called_in g x)) hs in
    ap (λ (l : List CallAt). cs ++ l) (expand_on hs (run g cs) h)
    ∙ sym (append_assoc cs e (called_in (run (run g cs) e) h))
    ∙ ap (λ (y : Members). (cs ++ e) ++ called_in y h) (sym (run-append cs e g))

module _ (n : ℕ) (start : List ℤ) (setting : Setting n start) (hs : List Happening) (f : Happenings n hs) (p : GivingPremise n start hs) where
  abbrev Good : List Happening → Type 0
  Good l = PremiseFrom n start (fresh n start) (list_of n start l)

  no-calls : Good []
  unfolding expand
  no-calls = record { delivered = λ before k b q. absurd (none before _ q.0 q.1); lent = λ before k size own values j a l x y q. absurd (none before _ q.0 q.1) }
    where
      none : (before : List CallAt) (c : CallAt) (rest : List CallAt) → [] ≡ before ++ (c ∷ rest) → ⊥
      none [] c rest e = let z = ap length e in omega arith
      none (b ∷ bs) c rest e = let z = ap length e in omega arith

  -- the list with one more happening
  on : (before : List Happening) (h : Happening) → PremiseFrom n start (fresh n start) (list_of n start before ++ called_in (group_of n start before) h) → Good (before ++ (h ∷ []))
  on before h P = subst (PremiseFrom n start (fresh n start)) (sym (expand_on before (fresh n start) h)) P

  good-next : (before : List Happening) (h : Happening) → Happens hs before h → Happenings n before → Good before → Good (before ++ (h ∷ []))
  good-next before (single c) q F B = on before (single c) (premise-on n start (fresh n start) (list_of n start before) B c (record {
    delivered = λ bytes e. p.delivered before c.at bytes (is e);
    lent = λ size own values j a l x b e. p.lent before c.at size own values j a l x b (is e);
  }))
    where
      is : {d : AnyCall} → c.does ≡ d → Happens hs before (single (record { at = c.at; does = d }))
      is {d} e = (q.0, q.1 ∙ ap (λ (x : AnyCall). before ++ (single (record { at = c.at; does = x }) ∷ q.0)) e)
  good-next before (give k told) q F B = on before (give k told)
      (give-sofar n start setting (list_of n start before) (expand-calls n before F (fresh n start)) B k told (p.gives before k told q)).premise
  good-next before (cut k told count) q F B =
      let cs = list_of n start before in
      let l = (give_at (group_of n start before) k told).calls in
      let S = give-sofar n start setting cs (expand-calls n before F (fresh n start)) B k told (p.cuts before k told count q) in
      let w : cs ++ calls_at k l ≡ (cs ++ calls_at k (take count l)) ++ calls_at k (drop count l) =
      ap (λ (x : List Call). cs ++ calls_at k x) (sym (take-append-drop count l))
      ∙ ap (λ (x : List CallAt). cs ++ x) (map-append (λ (x : Call). record { at = k; does = call x }) (take count l) (drop count l))
      ∙ sym (append_assoc cs (calls_at k (take count l)) (calls_at k (drop count l))) in
      on before (cut k told count) (premise-part n start (cs ++ calls_at k l) (cs ++ calls_at k (take count l)) (calls_at k (drop count l)) w (fresh n start) S.premise)

  all-good : Good hs
  all-good = walk Good [] hs no-calls (λ mid h q B. good-next mid h q (λ x r. f x (subst (Mem x) (sym q.1) (Memᴰ.append_left (h ∷ q.0) r))) B)

  pub premise : Premise n start (list_of n start hs)
  premise = record { calls = all-good; lists = p.lists; one = p.one }

pub givings_theorem : GivingsTheorem
givings_theorem = record {
  same = λ g k told. let S = give-same g k told in record { memory = S.memory; others = S.others; blocks = S.blocks; handouts = S.handouts; taken = S.taken };
  calls = λ n start hs f. expand-calls n hs f (fresh n start);
  whole = λ n start setting hs f p. agreement n start setting (list_of n start hs) (expand-calls n hs f (fresh n start)) p;
  premise = premise;
  agreement = λ n start setting hs f p. agreement n start setting (list_of n start hs) (expand-calls n hs f (fresh n start)) (premise n start setting hs f p);
}
