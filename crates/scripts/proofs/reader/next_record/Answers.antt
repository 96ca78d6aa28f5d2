use Rattle.std.proofs.Common.{ap, ◌∙◌, arith, rules}
use Rattle.std.proofs.lemmas.Grind.{common_steps}
use Rattle.scripts.specs.Records.{item_of}
use Rattle.scripts.proofs.Reading.{items_none, reads_more}
use Rattle.scripts.proofs.reader.next_record.Goals as goal

pub returns-in-empty : goal.returns-in-empty
returns-in-empty c = record { empty = grind (arith, common_steps); none = grind (arith, items_none) }

pub returns-in-Some : goal.returns-in-Some
returns-in-Some c =
    reads_more c.args.script.now _ _ _ _ (search rules) (search rules) c.in-Some.ensures.cases
    (ap item_of c.ok_or.ensures.value ∙ c.parsed.ensures)
