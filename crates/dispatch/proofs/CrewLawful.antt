-- Crew is lawful, for proofs that speak of crews alone. Assumes nothing.
use Rattle.std.proofs.Common.{arith}
use Rattle.std.proofs.lemmas.Bool.Decides.{nat_tests}
use Rattle.units.specs.Kinds.{Lawful}
use Rattle.units.specs.Crews.{crew_kind, crew_clear}
use Rattle.units.specs.CrewLaws.{crew_laws}

pub crew_lawful : Lawful crew_kind
crew_lawful c =
    crew_laws c crew_clear record {
      shares_none = λ p l h. grind (arith, nat_tests);
      none_above = λ p l h. grind (arith, nat_tests);
      is_clear = λ p l apart known. grind (arith, nat_tests);
    }
