-- Document 02's notices, Req 10, and the slots that they put out.
use Rattle.std.specs.Prelude.{ℕ, Bool, cond, ◌&&◌, List, [], ◌∷◌, eqb, ltb, leb, get_or, set}
use Rattle.memory.specs.declared.Group.{Group}
use Rattle.memory.specs.Memory.{slot_limit, owner_at}

-- *Out k from v* or *Back k at w*: about is k, slot is v or w
pub record Notice : Type 0 where
  pub about : ℕ
  pub out : Bool
  pub slot : ℕ

-- the slot is *out*: it is a slot, and in the last outage of its owner
abbrev pub is_out : Group → ℕ → Bool
is_out g s = ltb s slot_limit && (leb (get_or g.from (owner_at g s) 0) s && ltb s (get_or g.until (owner_at g s) 0))

-- an Out begins an outage, with no end yet; a Back ends it
abbrev pub with_notice : Group → Notice → Group
with_notice g a = record {
  replicas = g.replicas;
  own = g.own;
  from = cond a.out (set g.from a.about a.slot) g.from;
  until = set g.until a.about (cond a.out slot_limit a.slot);
}

-- one after the other
unfoldable pub with_notices : Group → List Notice → Group
with_notices g [] = g
with_notices g (a ∷ l) = with_notices (with_notice g a) l

-- whether a list of notices puts slot s of replica k out: the last of those about k whose slot is at or below s is an Out; b where there is none
unfoldable pub puts_out : Bool → List Notice → (k s : ℕ) → Bool
puts_out b [] k s = b
puts_out b (a ∷ l) k s = puts_out (cond (eqb a.about k && leb a.slot s) a.out b) l k s
