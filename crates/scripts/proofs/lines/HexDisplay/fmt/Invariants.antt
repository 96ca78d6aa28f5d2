use Rattle.std.proofs.Common.{take}
use Rattle.std.specs.List.{flat_map}
use Rattle.std.specs.Fmt.{HasWritten, IsPlainFormatter}
use Rattle.scripts.specs.Text.{hex}
use Rattle.scripts.proofs.lines.HexDisplay.fmt.Given as goal

-- of the numbers' loop this differs in one word; a word of ours for both would take each of the six parts as an argument
abbrev pub invariant-loop-byte : goal.invariant-loop-byte
invariant-loop-byte g l =
    IsPlainFormatter l.initial.f → HasWritten g.W.Write.write_str_gives l.initial.f (flat_map hex (take l.byte-index l.byte-items)) l.f
