-- The premise on the notices at the end gives that of the machine. Assumes nothing.
use Prim.Native.Nat.{ℕ, ◌≤◌}
use mathlib.Core.Path.{◌≡◌, refl, sym, ap, ◌∙◌, subst}
use mathlib.Core.Logic.{◌⊎◌, inl, inr}
use mathlib.Core.Bool.{Bool, true, false, cond}
use mathlib.Core.List.Memᴰ
use mathlib.Core.List.{List, [], ◌∷◌, ◌++◌, map}
use native.Mathlib.Omega.{arith}
use lib.Dec.{eqb, ltb}
use lib.IntN.{ℤ}
use borrow.Author.Tests.{eq-eqb}
use Rattle.block.specs.Answers.{header_of}
use Rattle.memory.specs.Memory.{Memory}
use Rattle.memory.specs.Notices.{Notice}
use Rattle.engine.specs.Make.{Setting, made_memory}
use Rattle.engine.specs.Calls.{Call, step}
use Rattle.engine.proofs.Tests.{cond_by, same_by}
use Rattle.protocol.specs.Lists.{Mem, keep}
use Rattle.protocol.specs.Writesets.{Message}
use Rattle.protocol.specs.Notices as protocol
use Rattle.protocol.specs.Notices.{notices_about, out_by}
use Rattle.protocol.specs.Journal.{Journal}
use Rattle.protocol.specs.System as system
use Rattle.protocol.specs.Machine.{system_of}
use Rattle.protocol.proofs.ListLaws.{update_other, keep_all, map-all}
use Rattle.protocol.proofs.SequenceLaws.{map-append}
use Rattle.agreement.specs.Group.{message_in, notice_in, about, Members, CallAt, fresh, next, run, Beginning, OneList}
use Rattle.agreement.proofs.View.{setup, Sound, Owed}
use Rattle.agreement.proofs.DeliverStep.{slot_said, sender_said}
use Rattle.agreement.proofs.RestartView.{puts_same}
use Rattle.agreement.proofs.Runs.{machine, machine_of}

-- ---- members at which there is no call

unfoldable Uncalled : ℕ → List CallAt → Type 0
Uncalled j [] = Unit
Uncalled j (c ∷ cs) = (j ≡ c.at → ⊥) × Uncalled j cs

abbrev Called : ℕ → List CallAt → Type 0
Called j cs = (c : CallAt) × Mem c cs × (c.at ≡ j)

called_or : (j : ℕ) (cs : List CallAt) → Called j cs ⊎ Uncalled j cs
unfolding Uncalled
called_or j [] = inr tt
called_or j (c ∷ cs) = same_by j c.at (λ e. inl (c, Memᴰ.head refl, sym e)) (λ d. go d (called_or j cs))
  where
    go : (j ≡ c.at → ⊥) → Called j cs ⊎ Uncalled j cs → Called j (c ∷ cs) ⊎ ((j ≡ c.at → ⊥) × Uncalled j cs)
    go d (inl h) = inl (h.0, Memᴰ.tail h.1, h.2)
    go d (inr h) = inr (d, h)

untouched : (cs : List CallAt) (g : Members) (j : ℕ) → Uncalled j cs → ((run g cs).memories j ≡ g.memories j) × ((run g cs).taken j ≡ g.taken j)
unfolding run Uncalled
untouched [] g j h = (refl, refl)
untouched (c ∷ cs) g j h =
    let r = untouched cs (next g c) j h.1 in
    (r.0 ∙ update_other g.memories c.at _ j h.0, r.1 ∙ update_other g.taken c.at _ j h.0)

fresh-turn : (n : ℕ) (start : List ℤ) (j : ℕ) → ((fresh n start).memories j).turn.slot ≡ 0
unfolding made_memory
fresh-turn n start j = cond_by (λ (m : Memory). m.turn.slot ≡ 0) (ltb j n) (λ e. refl) (λ e. refl)

-- each has taken a beginning: one at which there is no call has taken nothing and stands at slot 0
module _ (n : ℕ) (start : List ℤ) (cs : List CallAt) (l : ℕ → List Notice) (O : OneList cs l (run (fresh n start) cs)) where
  abbrev g : Members
  g = run (fresh n start) cs

  pub beginnings : (j k : ℕ) → Beginning (about k ((run (fresh n start) cs).taken j)) (l k) ((run (fresh n start) cs).memories j).turn.slot
  unfolding keep
  beginnings j k = go (called_or j cs)
    where
      go : Called j cs ⊎ Uncalled j cs → Beginning (about k (g.taken j)) (l k) (g.memories j).turn.slot
      go (inl h) = subst (λ (i : ℕ). Beginning (about k (g.taken i)) (l k) (g.memories i).turn.slot) h.2 (O.taken h.0 h.1 k)
      go (inr h) = let u = untouched cs (fresh n start) j h in record {
        lacking = l k;
        whole = rw u.1 refl;
        ahead = λ a q. subst (λ (t : ℕ). t ≤ a.slot) (sym (ap (λ (m : Memory). m.turn.slot) u.0 ∙ fresh-turn n start j)) (omega arith);
      }

-- ---- the model's

about-map : (k : ℕ) (l : List Notice) → notices_about k (map notice_in l) ≡ map notice_in (about k l)
unfolding keep
about-map k [] = refl
about-map k (a ∷ l) = go (eqb a.about k) (about-map k l)
  where
    go : (b : Bool) → notices_about k (map notice_in l) ≡ map notice_in (about k l)
        → cond b (notice_in a ∷ notices_about k (map notice_in l)) (notices_about k (map notice_in l)) ≡ map notice_in (cond b (a ∷ about k l) (about k l))
    go true e = ap (λ (z : List protocol.Notice). notice_in a ∷ z) e
    go false e = e

-- the one lists, as the model has them
abbrev pub model_lists : (ℕ → List Notice) → ℕ → List protocol.Notice
model_lists l k = map notice_in (l k)

module _ (l : ℕ → List Notice) (its : (k : ℕ) (a : Notice) → Mem a (l k) → a.about ≡ k) where
  whole-about : (k : ℕ) → notices_about k (model_lists l k) ≡ model_lists l k
  whole-about k = about-map k (l k) ∙ ap (map notice_in) (keep_all (λ (a : Notice). eqb a.about k) (l k) (λ a q. eq-eqb a.about k (its k a q)))

  -- a slot that they put out
  pub outs-same : (k s : ℕ) → out_by false (model_lists l k) s ≡ Rattle.memory.specs.Notices.puts_out false (l k) k s
  outs-same k s = ap (λ (z : List protocol.Notice). out_by false z s) (sym (whole-about k)) ∙ puts_same false (l k) k s

module _ (n : ℕ) (start : List ℤ) (setting : Setting n start) (owes : (m : Memory) → Sound n m → (c : Call) → Owed n start m c (step m c)) where
  pub one_list : (cs : List CallAt) (l : ℕ → List Notice) → OneList cs l (run (fresh n start) cs) → (J : ℕ → Journal ℤ)
      → system.OneList (λ k. Unit) (model_lists l) (system_of (setup n start) (machine n start setting owes) (machine_of n start setting owes J (run (fresh n start) cs)))
  one_list cs l O J = record {
    taken = λ j h k. let t = beginnings n start cs l O j k in record {
      lacking = map notice_in t.lacking;
      whole = ap (map notice_in) t.whole ∙ map-append notice_in (about k (g.taken j)) t.lacking ∙ ap (λ (z : List protocol.Notice). z ++ map notice_in t.lacking) (sym (about-map k (g.taken j)));
      ahead = map-all (λ (a : protocol.Notice). (g.memories j).turn.slot ≤ a.slot) notice_in t.lacking t.ahead;
    };
    handed = map-all (λ (m : Message ℤ). out_by false (model_lists l m.sender) m.slot ≡ false) message_in g.blocks
        (λ b q. rw (sender_said b, slot_said b) (outs-same l O.of_its (header_of b).sender (header_of b).slot ∙ O.handed b q));
  }
    where
      g : Members
      g = run (fresh n start) cs
