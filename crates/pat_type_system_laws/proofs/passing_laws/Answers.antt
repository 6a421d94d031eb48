use Rattle.pat_type_system_laws.proofs.Passing.{fits_twice, passes_twice, type_twice}
use Rattle.pat_type_system_laws.proofs.Nodes.{fits_kind}
use Rattle.pat_type_system_laws.proofs.passing_laws.Goals as goal

pub returns : goal.returns
returns c = record { fits = fits_twice; passes = passes_twice; types = type_twice; kinds = fits_kind }
