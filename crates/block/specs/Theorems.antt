-- What is proved of blocks, beside the functions' contracts. `proofs/Theorems.antt` has the proof.
use Rattle.std.specs.Prelude.{ℕ, ◌+◌, ◌-◌, ◌/◌, ◌%◌, ◌^◌, ◌≤◌, ◌<◌, ◌≡◌, true, cond, List, [], eqb, pos, length, get_or, set}
use Rattle.block.specs.declared.Entry.{Entry}
use Rattle.block.specs.declared.RecordHead.{RecordHead}
use Rattle.block.specs.Check.{word, first_check, second_check, check_matches}
use Rattle.block.specs.Message.{Record, Message, valid, all_values_fit}
use Rattle.block.specs.Bytes.{block_of, header_for}
use Rattle.block.specs.Form.{message_of, well_formed}
use Rattle.block.specs.Answers.{block_refusal, header_of, record_at, entry_at}

-- every number of the list is a byte, as every slice of bytes is
abbrev pub AreBytes : List ℕ → Type 0
AreBytes b = (i : ℕ) → get_or b i 0 < 256

-- a message that a block can carry: valid, its values signed 32-bit numbers
pub record Sendable (m : Message) : Type 0 where
  pub fields : valid m ≡ true
  pub values : all_values_fit m.records ≡ true

-- a block that the reader accepts
pub record Accepted (b : List ℕ) : Type 0 where
  pub bytes : AreBytes b
  pub taken : block_refusal b ≡ 0

-- c is not b, but 512 bytes that differ from it in no words but i and j, which may be one; the words of the check count
pub record TwoWordsChanged (b c : List ℕ) (i j : ℕ) : Type 0 where
  pub bytes : AreBytes c
  pub long : length c ≡ 512
  pub elsewhere : (k : ℕ) → (k ≡ i → ⊥) → (k ≡ j → ⊥) → word c k ≡ word b k
  pub changed : c ≡ b → ⊥

-- a byte with bit t changed
unfoldable pub flipped : ℕ → ℕ → ℕ
flipped t x = cond (eqb (x / 2 ^ t % 2) 0) (x + 2 ^ t) (x - 2 ^ t)

-- the block with bit t of byte p changed
unfoldable pub flip_bit : List ℕ → ℕ → ℕ → List ℕ
flip_bit b p t = set b p (flipped t (get_or b p 0))

abbrev pub no_entry : Entry
no_entry = record { item = 0; value = pos 0 }

abbrev pub no_record : Record
no_record = record { ticket = 0; entries = [] }

abbrev pub head_of : Record → RecordHead
head_of r = record { ticket = r.ticket; writes = length r.entries }

-- reading the block of a message gives the message
pub record RoundTrip (m : Message) : Type 0 where
  pub long : length (block_of m) ≡ 512
  pub bytes : AreBytes (block_of m)
  pub checks : check_matches (block_of m) ≡ true
  pub forms : well_formed (block_of m) ≡ true
  pub taken : block_refusal (block_of m) ≡ 0
  pub message : message_of (block_of m) ≡ m

-- an accepted block is the block of its message, and the functions that read it give that message
pub record Reading (b : List ℕ) : Type 0 where
  pub sendable : Sendable (message_of b)
  pub block : block_of (message_of b) ≡ b
  pub header : header_of b ≡ header_for (message_of b)
  pub records : (j : ℕ) → j < length (message_of b).records → record_at b j ≡ head_of (get_or (message_of b).records j no_record)
  pub entries : (j e : ℕ) → j < length (message_of b).records → e < length (get_or (message_of b).records j no_record).entries
      → entry_at b j e ≡ get_or (get_or (message_of b).records j no_record).entries e no_entry

pub record Theorems : Type 0 where
  -- the sums of any bytes fit 32 bits: 252 words of 65,535, and weights whose sum is 31,878
  pub fits : (b : List ℕ) → AreBytes b → (first_check b ≤ 16_514_820) × (second_check b ≤ 2_089_124_730)
  pub round_trip : (m : Message) → Sendable m → RoundTrip m
  pub reading : (b : List ℕ) → Accepted b → Reading b
  -- two accepted blocks of one message are one block
  pub only : (b c : List ℕ) → Accepted b → Accepted c → message_of b ≡ message_of c → b ≡ c
  -- any change confined to one or two of the 256 words: 14
  pub two_words : (b c : List ℕ) (i j : ℕ) → Accepted b → TwoWordsChanged b c i j → block_refusal c ≡ 14
  -- so any one of the 4,096 bits changed: 14
  pub one_bit : (b : List ℕ) → Accepted b → (p t : ℕ) → p < 512 → t < 8 → block_refusal (flip_bit b p t) ≡ 14
