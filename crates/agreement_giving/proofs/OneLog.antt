-- Two runs with the same out slots, of which one put down no more than the other, have the same writesets below a slot that the logs of both reach. Assumes nothing.
use Prim.Native.Nat.{ℕ, zero, suc, ◌≤◌, ◌<◌}
use mathlib.Core.Path.{◌≡◌, refl, sym, ap, ◌∙◌, subst}
use mathlib.Core.Bool.{Bool, false, not}
use mathlib.Core.List.{List, ◌++◌}
use native.Mathlib.Omega.{arith}
use lib.ListN.{length, get_or, take}
use lib.Seq.{take-suc}
use Rattle.protocol.specs.Lists.{Mem}
use Rattle.protocol.specs.Replica.{Setup}
use Rattle.protocol.specs.Observer.{Placed, Handout, sequence, no_handout}
use Rattle.protocol.specs.System.{System}
use Rattle.protocol.proofs.ListLaws.{bool_by, mem-keep, keep-mem, mem-get_or}
use Rattle.protocol.proofs.SequenceLaws.{sequence-snoc, mem_at}
use Rattle.protocol.proofs.Invariant.{SystemInv}

module _ {X : Type 0} (S : Setup X) (out : ℕ → Bool) (w v : System X) (I : SystemInv S out w) (J : SystemInv S out v)
    (sub : (h : Handout X) → Mem h v.handouts → Mem h w.handouts) where
  abbrev live : Handout X → Bool
  live h = not (out h.slot)

  -- a slot that is not out has one handout
  same-handout : (s : ℕ) → s < length I.log → s < length J.log → out s ≡ false → get_or J.log s no_handout ≡ get_or I.log s no_handout
  same-handout s a b e = h.1.1 ∙ ap (λ (i : ℕ). get_or I.log i no_handout) at
    where
      x : Handout X
      x = get_or J.log s no_handout

      slot : (get_or J.log s no_handout).slot ≡ s
      slot = J.whole.in_order.slot s b

      down : Mem (get_or J.log s no_handout) v.handouts
      down = subst (Mem x) (sym J.listed.of_log) (mem-keep live J.log x (mem-get_or no_handout J.log s b) (rw (slot, e)))

      h : (i : ℕ) × ((i < length I.log) × (get_or J.log s no_handout ≡ get_or I.log i no_handout))
      h = mem_at no_handout I.log x (keep-mem live I.log x (subst (Mem x) I.listed.of_log (sub x down))).0

      at : h.0 ≡ s
      at = sym (I.whole.in_order.slot h.0 h.1.0) ∙ ap (λ (y : Handout X). y.slot) (sym h.1.1) ∙ slot

  same-writesets : (s : ℕ) → s < length I.log → s < length J.log → (get_or J.log s no_handout).writesets ≡ (get_or I.log s no_handout).writesets
  same-writesets s a b = bool_by (out s)
      (λ e. J.whole.in_order.blank s b e ∙ sym (I.whole.in_order.blank s a e))
      (λ e. ap (λ (h : Handout X). h.writesets) (same-handout s a b e))

  pub same-below : (t : ℕ) → t ≤ length I.log → t ≤ length J.log → sequence (take t J.log) ≡ sequence (take t I.log)
  same-below zero a b = refl
  same-below (suc t) a b =
      ap sequence (take-suc J.log t no_handout b) ∙ sequence-snoc (take t J.log) (get_or J.log t no_handout)
      ∙ ap (λ (F : List (Placed X)). F ++ (get_or J.log t no_handout).writesets) (same-below t (omega arith) (omega arith))
      ∙ ap (λ (F : List (Placed X)). sequence (take t I.log) ++ F) (same-writesets t a b)
      ∙ sym (ap sequence (take-suc I.log t no_handout a) ∙ sequence-snoc (take t I.log) (get_or I.log t no_handout))
