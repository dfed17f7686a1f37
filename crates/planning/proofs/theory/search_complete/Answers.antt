use Rattle.planning.proofs.Slides.{search_complete}
use Rattle.planning.proofs.theory.search_complete.Goals as goal

pub returns : goal.returns
returns g c = search_complete
