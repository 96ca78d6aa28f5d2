use Rattle.std.proofs.Common.{◌∙◌, arith}
use Rattle.objects.proofs.Settling.{object_below, forget_rest, forget_nearly, forget_shadow}
use Rattle.objects.proofs.tables.Tables.forget.Goals as goal

pub settle-requires-in-Shadow : goal.settle-requires-in-Shadow
settle-requires-in-Shadow c =
    forget_nearly _ c.requires.formed _ c.requires.others _ c.free.ensures.rows c.free.ensures.records (omega arith) (object_below _ c.requires.formed _ c.requires.live) c.free.ensures.objects c.free.ensures.frames _ c.in-Shadow.ensures.row

pub returns-in-Shadow : goal.returns-in-Shadow
returns-in-Shadow c =
    forget_shadow _ c.requires.formed _ c.requires.others _ c.free.ensures.rows c.free.ensures.records (omega arith) (object_below _ c.requires.formed _ c.requires.live) c.free.ensures.objects c.free.ensures.frames _ c.settle-in-Shadow.ensures

pub returns-in_default : goal.returns-in_default
returns-in_default c =
    forget_rest _ c.requires.formed _ c.requires.others _ c.free.ensures.rows c.free.ensures.records (omega arith) (object_below _ c.requires.formed _ c.requires.live) c.free.ensures.objects c.free.ensures.frames c.requires.live (λ p h. c.in_default.not-Shadow p (c.free.ensures.row ∙ h))
