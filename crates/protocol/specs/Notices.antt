-- Document 02's notices: *Out k from v* and *Back k at w*; which slots a list of them puts out, and the last outage that a replica keeps of it.
use Rattle.std.specs.Prelude.{ℕ, Bool, false, ◌&&◌, cond, List, [], ◌∷◌, eqb, leb, ltb}
use Rattle.protocol.specs.Lists.{update, keep}

-- about: k; out: whether it is an Out; slot: v or w
pub record Notice : Type 0 where
  pub about : ℕ
  pub out : Bool
  pub slot : ℕ

-- of a list of notices, those about replica k, in order
abbrev pub notices_about : ℕ → List Notice → List Notice
notices_about k l = keep (λ n. eqb n.about k) l

-- whether notices about one replica put its slot s out: the last of them whose slot is at or below s is an Out; b where there is none
unfoldable pub out_by : Bool → List Notice → ℕ → Bool
out_by b [] s = b
out_by b (n ∷ l) s = out_by (cond (leb n.slot s) n.out b) l s

-- whether a list of notices puts slot s of replica k out
abbrev pub puts_out : List Notice → ℕ → ℕ → Bool
puts_out l k s = out_by false (notices_about k l) s

-- the last Out about a replica and the Back behind it: the slots from `from` on, below `until`. No Out yet: both 0. No Back yet: `until` is the slot limit, above every slot
pub record Outage : Type 0 where
  pub from : ℕ
  pub until : ℕ

abbrev pub outage : ℕ → ℕ → Outage
outage v w = record { from = v; until = w }

abbrev pub is_out : Outage → ℕ → Bool
is_out o s = leb o.from s && ltb s o.until

-- with one more notice about the replica
abbrev pub outage_after : (limit : ℕ) → Outage → Notice → Outage
outage_after limit o n = cond n.out (outage n.slot limit) (outage o.from n.slot)

-- of every replica
abbrev pub outages_after : (limit : ℕ) → (ℕ → Outage) → Notice → ℕ → Outage
outages_after limit f n = update f n.about (outage_after limit (f n.about) n)

unfoldable pub outages_of : (limit : ℕ) → (ℕ → Outage) → List Notice → ℕ → Outage
outages_of limit f [] = f
outages_of limit f (n ∷ l) = outages_of limit (outages_after limit f n) l

abbrev pub no_outages : ℕ → Outage
no_outages k = outage 0 0
