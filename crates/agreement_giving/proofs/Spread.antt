-- Replicas at one turn have the same window, so a giving by the former rule is the same. Assumes nothing.
use Prim.Native.Nat.{ℕ, ◌<◌}
use mathlib.Core.Path.{◌≡◌, sym, ap, ◌∙◌}
use mathlib.Core.Bool.{true, false, not}
use mathlib.Core.Logic.{◌⊎◌, inl, inr}
use mathlib.Core.List.{List}
use native.Mathlib.Omega.{arith}
use lib.Dec.{eqb}
use lib.IntN.{ℤ}
use lib.ListN.{length}
use borrow.Author.Tests.{eq-eqb, eqb-true, not-true}
use Rattle.block.specs.Message.{owner_of}
use Rattle.block.specs.Answers.{header_of}
use Rattle.block.proofs.BoolLaws.{Both, both}
use Rattle.memory.specs.Memory.{Memory}
use Rattle.memory.specs.Notices.{Notice, puts_out}
use Rattle.engine.specs.Make.{Setting}
use Rattle.engine.proofs.Tests.{same_by, clash}
use Rattle.engine.proofs.BlockFacts.{taken_block}
use Rattle.protocol.specs.Lists.{Mem}
use Rattle.agreement.specs.Group.{about, Members, CallAt, fresh, run, Calls, Premise}
use Rattle.agreement.proofs.OneList.{beginnings}
use Rattle.agreement_progress.proofs.NoticeLists.{puts_first, puts_about}
use Rattle.giving.specs.Choice.{down, told_turn, may_give, giver_of}
use Rattle.giving.specs.Giving.{give_step}
use Rattle.giving.specs.Spread.{former_giver}
use Rattle.giving.proofs.Rings.{block_no, ring-one}
use Rattle.giving.proofs.Choices.{giver_may}
use Rattle.giving.proofs.Spread.{former-may, ties_alone}
use Rattle.agreement_giving.specs.Givings.{give_at}
use Rattle.agreement_giving.specs.Promise.{Truly}
use Rattle.agreement_giving.specs.Spread.{former_at, SpreadTheorem}
use Rattle.agreement_giving.proofs.Windows.{GoodAt, Keeps, kept-after}
use Rattle.agreement_giving.proofs.Journaled.{OutBlock}
use Rattle.agreement_giving.proofs.HandedOver.{own_at, handed-all}
use Rattle.agreement_giving.proofs.OneBlock.{unique-all}

module _ (n : ℕ) (start : List ℤ) (setting : Setting n start) (cs : List CallAt) (f : Calls n cs) (p : Premise n start cs) where
  abbrev g : Members
  g = run (fresh n start) cs

  -- a slot of which a block was handed out is put out by no replica that has left it
  not_out : (x : List ℕ) (s : ℕ) → Mem x (run (fresh n start) cs).blocks → GoodAt n s x → (k : ℕ) → s < ((run (fresh n start) cs).memories k).turn.slot
      → puts_out false ((run (fresh n start) cs).taken k) (owner_of n s) s ≡ false
  unfolding header_of
  not_out x s m G k l =
      let o = owner_of n s in
      let B = beginnings n start cs p.lists p.one k o in
      let z : (header_of x).sender ≡ o = (taken_block x G.taken).sender ∙ ap (λ (r : ℕ). owner_of r (header_of x).slot) G.replicas ∙ ap (owner_of n) G.slot in
      let h : puts_out false (p.lists o) o s ≡ false = rw (z, G.slot) at (p.one.handed x m) in
      sym (puts_about o s false (g.taken k)) ∙ sym (puts_first o s (about o (g.taken k)) B.lacking (λ a q. let w = B.ahead a q in omega arith))
      ∙ ap (λ (T : List Notice). puts_out false T o s) (sym B.whole) ∙ h

  module _ (a b : ℕ) (ha : a < n) (hb : b < n) (e : ((run (fresh n start) cs).memories a).turn.slot ≡ ((run (fresh n start) cs).memories b).turn.slot) where
    keeps : (k : ℕ) → k < n → Keeps n (g.memories k).turn (g.memories k).blocks.outbox (g.disks k).journal (g.memories k).blocks.window
    keeps k h = (kept-after n start setting cs f k h).keeps

    same_block : (s : ℕ) → s < (g.memories a).turn.slot → block_no (g.disks a).journal s ≡ block_no (g.disks b).journal s
    same_block s l = go ((handed-all n start setting cs f p.calls a ha).journal s (omega arith)) ((handed-all n start setting cs f p.calls b hb).journal s (omega arith))
      where
        x : List ℕ
        x = block_no (g.disks a).journal s

        y : List ℕ
        y = block_no (g.disks b).journal s

        X : GoodAt n s (block_no (g.disks a).journal s)
        X = (keeps a ha).good s (omega arith)

        Y : GoodAt n s (block_no (g.disks b).journal s)
        Y = (keeps b hb).good s (omega arith)

        go : Mem x g.blocks ⊎ OutBlock n (g.taken a) s x → Mem y g.blocks ⊎ OutBlock n (g.taken b) s y → x ≡ y
        go (inl q) (inl r) = unique-all n start setting cs f p x y q r (X.slot ∙ sym Y.slot)
        go (inl q) (inr r) = clash r.1 (not_out x s q X b (omega arith))
        go (inr q) (inl r) = clash q.1 (not_out y s r Y a (omega arith))
        go (inr q) (inr r) = q.0 ∙ sym r.0

    same-window : (g.memories a).blocks.window ≡ (g.memories b).blocks.window
    same-window = ring-one (g.memories a).turn.slot (block_no (g.disks a).journal) (block_no (g.disks b).journal) (g.memories a).blocks.window (g.memories b).blocks.window
        (keeps a ha).ring (rw e (keeps b hb).ring) (λ s l u. same_block s l)

  module _ (k : ℕ) (h : k < n) (told : List ℕ) (T : Truly n (run (fresh n start) cs) k told) where
    abbrev m : Memory
    m = (run (fresh n start) cs).memories k

    abbrev own : ℕ
    own = ((run (fresh n start) cs).memories k).group.own

    -- the turn told of one that may give is its own
    told-turn : (j : ℕ) → j < length told → may_give own told j ≡ true → (j < n) × (told_turn told j ≡ (g.memories j).turn.slot)
    told-turn j l q = let b : j < n = (let z = T.each in omega arith) in (b, go (T.right j b (λ e. clash (eq-eqb j own (e ∙ sym (own_at n start setting cs f p.calls k h))) (not-true _ u.left))))
      where
        u : Both (not (eqb j own)) (not (eqb (told_turn told j) down))
        u = both (not (eqb j own)) (not (eqb (told_turn told j) down)) q

        go : (told_turn told j ≡ down) ⊎ (told_turn told j ≡ (g.memories j).turn.slot) → told_turn told j ≡ (g.memories j).turn.slot
        go (inl e) = clash (eq-eqb (told_turn told j) down e) (not-true _ u.right)
        go (inr e) = e

    -- by either rule the same window is lent
    same-lent : (g.memories (giver_of own told)).blocks.window ≡ (g.memories (former_giver own told)).blocks.window
    same-lent = same_by (former_giver own told) own
        (λ e. ap (λ (j : ℕ). (g.memories j).blocks.window) (eqb-true (giver_of own told) own (ties_alone.nobody own told ∙ eq-eqb (former_giver own told) own e) ∙ sym e))
        (λ d.
        let v = former-may own told d in
        let w = giver_may own told (λ e. d (eqb-true (former_giver own told) own (sym (ties_alone.nobody own told) ∙ eq-eqb (giver_of own told) own e))) in
        let x = told-turn (giver_of own told) w.0 w.1 in
        let y = told-turn (former_giver own told) v.0 v.1 in
        same-window (giver_of own told) (former_giver own told) x.0 y.0 (sym x.1 ∙ ties_alone.turn own told ∙ y.1))

    same-giving : give_at (run (fresh n start) cs) k told ≡ former_at (run (fresh n start) cs) k told
    same-giving = ap (give_step m told) same-lent ∙ ties_alone.given m told (g.memories (former_giver own told)).blocks.window

pub spread : SpreadTheorem
spread = record {
  tied = λ n start setting cs f p a b ha hb e. same-window n start setting cs f p a b ha hb e;
  given = λ n start setting cs f p k h told T. same-giving n start setting cs f p k h told T;
}
