use Rattle.std.proofs.Common.{is_some, None, ap}
use Rattle.chains.specs.declared.Backing.TheVariants.{Free}
use Rattle.chains.specs.Rows.{live}
use Rattle.objects.proofs.Edits.{repeated}
use Rattle.objects.proofs.Keeping.{empty_tables, empty_sound, sound_fields}
use Rattle.objects.proofs.store.Store.new.Goals as goal

pub invariant_of-result : goal.invariant_of-result
invariant_of-result c = sound_fields empty_tables empty_sound

pub returns : goal.returns
returns c = record {
  records = λ k. ap is_some (repeated 256 None k);
  objects = λ o. ap live (repeated 511 Free o);
  frames = λ s. repeated 128 None s;
}
