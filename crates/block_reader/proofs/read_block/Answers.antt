-- Each answer by its law.
use mathlib.Core.Path.{◌≡◌, sym, ◌∙◌, ap}
use borrow.Author.Rules.{rules}
use Rattle.block.specs.Answers.{header_of}
use Rattle.block.proofs.ReaderLaws.{read_short, read-damaged, read-malformed, read_taken}
use Rattle.block_reader.proofs.read_block.Goals as goal

pub returns-in_default : goal.returns-in_default
returns-in_default c = read_short _ (search rules)

pub returns-then-not-check_matches : goal.returns-then-not-check_matches
returns-then-not-check_matches c = read-damaged _ (search rules) (sym c.check_matches.ensures ∙ c.if-not-check_matches.true)

pub returns-then-not-well_formed : goal.returns-then-not-well_formed
returns-then-not-well_formed c =
    read-malformed _ (search rules) (sym c.check_matches.ensures ∙ c.if-not-check_matches.false) (sym c.well_formed-2.ensures ∙ c.if-not-well_formed.true)

pub returns : goal.returns
returns c =
    let whole : c.in-Some.whole.now ≡ c.args.block.now = search rules in
    read_taken _ (search rules) (sym c.check_matches.ensures ∙ c.if-not-check_matches.false) (sym c.well_formed-2.ensures ∙ c.if-not-well_formed.false)
    c.header.result (c.header.ensures ∙ ap header_of whole)
