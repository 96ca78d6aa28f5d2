use Rattle.std.proofs.Common.{Some, ap, ◌∙◌}
use Rattle.objects.proofs.Effects.{frame_held}
use Rattle.objects.proofs.Keeping.{store_sound}
use Rattle.contents.proofs.bytes.load.Goals as goal

pub framed-requires : goal.framed-requires
framed-requires g c =
    c.requires.frames c.in-Frame.slot (frame_held c.args.store.now.tables (store_sound c.args.store.now) c.args.sharing c.args.index c.in-Frame.slot (c.in-Some.ensures.end ∙ ap Some c.in-Frame.is))
