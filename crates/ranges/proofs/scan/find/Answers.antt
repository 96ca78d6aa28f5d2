use Rattle.std.proofs.Common.{rules, Some, sym, ap, ◌∙◌}
use Rattle.std.specs.Option.{option_map}
use Rattle.ranges.proofs.Scans.{said_by, found_row}
use Rattle.ranges.proofs.scan.find.Goals as goal

pub one-requires : goal.one-requires
one-requires g c =
    let row = found_row g.E.Element.shape 0 c.args.page c.args.rows.now c.in_ok-row.row c.requires (sym c.row_of.ensures ∙ c.in_ok-row.was) in
    record { proper = row.0; from = row.1; below = row.2 }

pub returns-in_err-row : goal.returns-in_err-row
returns-in_err-row g c =
    let S = g.E.Element.shape in
    let none = c.row_of.ensures in
    search (rules, said_by)

pub returns : goal.returns
returns g c =
    let S = g.E.Element.shape in
    ap Some c.one.ensures ∙ ap (option_map (S.one c.args.page)) (sym c.in_ok-row.was ∙ c.row_of.ensures) ∙ sym (said_by S c.args.page c.args.rows.now)
