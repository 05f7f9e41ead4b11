-- Document 01's marked cases that are about blocks alone, with document 02's check; and a block that is not zero where it must be, with a good check and with a bad one.
use Rattle.std.specs.Prelude.{◌≡◌, ℕ, List, [], ◌∷◌, ◌++◌, pos, drop, set, take}
use Rattle.block.specs.Check.{check_bytes}
use Rattle.block.specs.Message.{Message}
use Rattle.block.specs.Bytes.{block_of}
use Rattle.block.specs.Answers.{block_refusal}

-- a *next* of replica 0 of 2, for slot 0
abbrev pub example_next : Message
example_next = record { kind = 1; sender = 0; replicas = 2; slot = 0; records = [] }

-- a *tocommit* of replica 1 of 2, for slot 1: ticket 1 writes 40 to item 5
abbrev pub example_commit : Message
example_commit = record {
  kind = 2;
  sender = 1;
  replicas = 2;
  slot = 1;
  records = record { ticket = 1; entries = record { item = 5; value = pos 40 } ∷ [] } ∷ [];
}

-- that block with 1 in the third byte behind the item, and the check of these bytes
abbrev pub unpadded_body : List ℕ
unpadded_body = take 504 (set (block_of example_commit) 27 1)

abbrev pub unpadded : List ℕ
unpadded = unpadded_body ++ check_bytes unpadded_body

-- the check bytes of the two blocks, with which they are taken
pub record WorkedBlocks : Type 0 where
  pub next-check : drop 504 (block_of example_next) ≡ 0x03 ∷ 0x00 ∷ 0x00 ∷ 0x00 ∷ 0xf2 ∷ 0x02 ∷ 0x00 ∷ 0x00 ∷ []
  pub next-taken : block_refusal (block_of example_next) ≡ 0
  pub commit-check : drop 504 (block_of example_commit) ≡ 0x34 ∷ 0x02 ∷ 0x00 ∷ 0x00 ∷ 0xae ∷ 0x27 ∷ 0x02 ∷ 0x00 ∷ []
  pub commit-taken : block_refusal (block_of example_commit) ≡ 0
  -- 15; with the check of the block before, 14 comes first
  pub unpadded-refused : block_refusal unpadded ≡ 15
  pub doubly-refused : block_refusal (set (block_of example_commit) 27 1) ≡ 14
