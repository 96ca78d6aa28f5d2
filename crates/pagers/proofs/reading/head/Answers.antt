use Rattle.std.proofs.Common.{arith}
use Rattle.std.proofs.lemmas.List.{take_rest}
use Rattle.pagers.proofs.Openings.{table_says}
use Rattle.pagers.proofs.reading.head.Goals as goal

pub returns-in-Some-clause-table : goal.returns-in-Some-clause-table
returns-in-Some-clause-table c =
    let range = c.in-Some.ensures.lookup.0 in
    table_says c.args.file.now _ c.as_chunks.result.0.now c.in-Some.table.now c.from.result _ (take_rest c.args.file.now 3) c.as_chunks.ensures.front range.2 (omega arith) c.from.ensures
