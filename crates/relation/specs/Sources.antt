-- The origin of a memory object as the machine's source.
use Rattle.chains.specs.declared.Origin.{Origin}
use Rattle.chains.specs.declared.Origin.TheVariants.{Zeros, Page}
use Rattle.machine.specs.Calls.{Source, zeros, page_of}

-- zeros, or the page of the object
abbrev pub source_of : Origin → Source
source_of Zeros = zeros
source_of (Page m q) = page_of m q
