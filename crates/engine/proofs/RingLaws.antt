-- The window as a ring of 64 blocks: its length, and what keeping the block of a slot leaves. Assumes nothing.
use Prim.Native.Nat.{ℕ, suc, ◌+◌, ◌≤◌, ◌<◌}
use mathlib.Core.Path.{◌≡◌, refl, ◌∙◌}
use mathlib.Core.List.{List, Memᴰ, [], ◌∷◌}
use native.Mathlib.Omega.{arith}
use lib.ListN.{length, length-replicate}
use lib.Seq.{length-paste}
use Rattle.memory.specs.Memory.{window_slots, window_bytes}
use Rattle.memory.specs.Turns.{place_start}
use Rattle.memory.specs.Window.{empty_window, kept_block, keeping, keeping_all}
use Rattle.engine.specs.Frames.{SameBut}
use Rattle.engine.proofs.PartLaws.{paste-but}
use Rattle.engine.proofs.PlaceLaws.{place-fits, block-kept, block-beside}

pub length_empty : length empty_window ≡ window_bytes
unfolding empty_window
length_empty = length-replicate {A = ℕ} window_bytes 0

module _ (w : List ℕ) (long : length w ≡ window_bytes) where
  room : (s : ℕ) → place_start window_slots s + 512 ≤ length w
  room s = let f = place-fits window_slots s (omega arith) in omega arith

  pub length-keeping : (s : ℕ) (b : List ℕ) → length b ≡ 512 → length (keeping w s b) ≡ window_bytes
  length-keeping s b h = length-paste w (place_start window_slots s) b 512 (room s) (omega arith) ∙ long

  -- the block of the slot is the one kept
  pub kept_same : (s : ℕ) (b : List ℕ) → length b ≡ 512 → kept_block (keeping w s b) s ≡ b
  kept_same s b h = block-kept window_slots w (omega arith) long s b h

  -- that of another slot a, both among the 64 from t on, is as it was
  pub kept-other : (t a s : ℕ) (b : List ℕ) → length b ≡ 512 → t ≤ a → a < t + window_slots → t ≤ s → s < t + window_slots → (a ≡ s → ⊥)
      → kept_block (keeping w s b) a ≡ kept_block w a
  kept-other t a s b h p q r u d = block-beside window_slots w (omega arith) long t a s b h p q r u d

  pub keeping-but : (s : ℕ) (b : List ℕ) → length b ≡ 512 → SameBut 0 (place_start window_slots s) 512 w (keeping w s b)
  keeping-but s b h = paste-but 0 w b (place_start window_slots s) 512 (room s) (omega arith)

pub length-keeping_all : (bs : List (List ℕ)) (w : List ℕ) (s : ℕ) → length w ≡ window_bytes → ((b : List ℕ) → Memᴰ b bs → length b ≡ 512)
    → length (keeping_all w s bs) ≡ window_bytes
unfolding keeping_all
length-keeping_all [] w s long h = long
length-keeping_all (b ∷ bs) w s long h =
    length-keeping_all bs (keeping w s b) (suc s) (length-keeping w long s b (h b (Memᴰ.head refl))) (λ c q. h c (Memᴰ.tail q))
