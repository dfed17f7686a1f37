use Rattle.std.proofs.Common.{◌≡◌, ℕ, ◌-◌, true, sym, ap, ◌∙◌, subst, arith}
use Rattle.planning.specs.Requests.{in_window}
use Rattle.planning.specs.Rectangles.{opening_of, closing_of}
use Rattle.planning.specs.Search.{joined_over}
use Rattle.planning.specs.Searches.{loads}
use Rattle.planning.specs.Tries.{IsHit}
use Rattle.planning.proofs.Hits.{hit_again, some_found}
use Rattle.planning.proofs.find.Search.found_at.Goals as goal
use Rattle.planning.proofs.find.Search.found_at.Goals.{in-Some, in_default}

pub returns : goal.returns
returns g c asc rest last =
    let k = g.L.Units.kind in
    let search = c.args.self.now in
    let xs = search.slots.now in
    let load = loads k search in
    let h = search.horizon in
    let s = c.args.start in
    let over = c.joined-over.result in
    let is = c.new-around.ensures.around asc rest in
    let same = c.new-around.ensures.minute in
    let met : over ≡ joined_over k load s search.request.duration = c.joined-over.ensures xs is ∙ ap (λ m. joined_over k load m search.request.duration) same in
    let inside : in_window search.request s ≡ true = sym c.if-not-in_window.ensures in
    let o = c.match-last.opening.0 in
    let z = c.match-last.opening.1 in
    let ends : (o ≡ opening_of k load over s) × (z ≡ closing_of k load over s (h - s)) =
    elim c.match-last.branch [
      | in-Some w ↦
          let again = hit_again k search (g.met.L.Units.keeps 0 (omega arith)) w.in-Some.hit over s (subst (IsHit k search) w.in-Some.is last) (w.goes_on.ensures w.if-goes_on.true) in
          (ap (λ (q : ℕ × ℕ). q.0) w.opening-is ∙ again.0, ap (λ (q : ℕ × ℕ). q.1) w.opening-is ∙ again.1)
      | in_default w ↦ (
        ap (λ (q : ℕ × ℕ). q.0) w.opening-is ∙ w.opening.ensures xs is ∙ ap (opening_of k load over) same,
        ap (λ (q : ℕ × ℕ). q.1) w.opening-is ∙ w.closing.ensures xs is ∙ ap (λ m. closing_of k load over m (h - m)) same,
      )
    ] in
    some_found k search s over c.free-units.result inside met c.free-units.ensures o z ends.0 ends.1 c.if-units-self.false
