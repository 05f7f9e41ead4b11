-- The theorems of `specs/Theorems.antt`. Assumes nothing.
use Rattle.block.specs.Theorems.{Theorems}
use Rattle.block.proofs.CheckLaws as check
use Rattle.block.proofs.OneBit as bit
use Rattle.block.proofs.Reading as read
use Rattle.block.proofs.RoundTrip as trip
use Rattle.block.proofs.TwoWords as words

pub theorems : Theorems
theorems = record {
  fits = λ b f. (check.first-most b (record { each = f }), check.second-most b (record { each = f }));
  round_trip = trip.round_trip;
  reading = read.reading;
  only = read.only;
  two_words = words.two_words;
  one_bit = bit.one_bit;
}
