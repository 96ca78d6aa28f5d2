use Rattle.std.proofs.Common.{refl}
use Rattle.ranges.proofs.Inserts.{put_is}
use Rattle.ranges.proofs.edit.put.Goals as goal

pub returns : goal.returns
returns g c =
    put_is c.args.rows.now c.rotate_right.new.self c.args.len c.args.at c.args.e c.requires.room c.requires.within _ refl c.rotate_right.ensures.after
