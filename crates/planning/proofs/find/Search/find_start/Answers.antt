use Rattle.std.proofs.Common.{◌≡◌, ℕ, ◌-◌, true, List, [], ◌∷◌, map, None, sym, refl, ap, ◌∙◌, ap₂, arith}
use Rattle.planning.specs.Requests.{latest}
use Rattle.planning.specs.Searches.{granted_in}
use Rattle.planning.specs.Tries.{found_at, better_of, trying}
use Rattle.slots.specs.Stepped.{minutes, ascends}
use Rattle.planning.proofs.Ascents.{ascending}
use Rattle.planning.proofs.Splits.{none_left}
use Rattle.planning.proofs.Trying.{granted_is, in_parts}
use Rattle.planning.proofs.Rights.{right}
use Rattle.planning.proofs.find.Search.find_start.Goals as goal

no_lead : (ms : List ℕ) → map (λ m. m - 0) ms ≡ ms
no_lead [] = refl
no_lead (m ∷ ms) = let own : m - 0 ≡ m = omega arith in ap₂ (λ n ns. n ∷ ns) own (no_lead ms)

pub returns : goal.returns
returns g c =
    let k = g.L.Units.kind in
    let p = g.P.Policy.preference c.args.policy.now in
    let search = c.args.self.now in
    let xs = search.slots.now in
    let request = search.request in
    let last = map (λ m. m - request.duration) (minutes xs) in
    let try = trying k p search in
    let both = better_of p (better_of p None (found_at k search request.ready)) (found_at k search (latest request)) in
    let which : ascends 0 xs ≡ true → c.best_ahead.result ≡ granted_in k p search = λ up.
    let asc = ascending 0 xs up in
    let soon = c.found_at-soonest.ensures asc (none_left request.ready xs) tt in
    let late = (c.found_at-last.ensures asc (none_left c.saturating_sub-latest.result xs) soon.1).0 ∙ ap (found_at k search) c.saturating_sub-latest.ensures in
    let ends = c.better_of-ends.ensures ∙ ap₂ (better_of p) (c.better_of-first.ensures ∙ ap (better_of p None) soon.0) late in
    let begins = c.best_ahead-begins.ensures asc ∙ ap₂ try ends (no_lead (minutes xs)) in
    c.best_ahead.ensures asc ∙ ap (λ b. try b last) begins ∙ sym (in_parts k p search both (minutes xs) last) ∙ granted_is k p search in
    record { which = which; right = λ up most wants lasts. right k search.capacity (g.met.L.Units.keeps search.capacity most) p search.horizon xs request wants lasts c.best_ahead.result (sym (which up)) }
