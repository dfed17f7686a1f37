use Rattle.planning.proofs.Slides.{search_sound}
use Rattle.planning.proofs.theory.search_sound.Goals as goal

pub returns : goal.returns
returns g c = search_sound
