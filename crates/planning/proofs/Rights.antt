-- What is granted is right. Assumes nothing.
use Rattle.std.proofs.Common.{◌≡◌, ℕ, ◌+◌, ◌≤◌, leb, List, [], ◌∷◌, map, Some, None, Option, sym, refl, ap, ◌∙◌, subst, arith}
use mathlib.Core.Bool.{So}
use Rattle.std.proofs.lemmas.Bool.{and_parts, leb-true}
use Rattle.slots.specs.Lists.{In}
use Rattle.units.specs.Kinds.{Kind, Laws}
use Rattle.slots.specs.Stepped.{at}
use Rattle.planning.specs.Requests.{in_window}
use Rattle.planning.specs.Search.{CanStart, feasible}
use Rattle.planning.specs.Policies.{Preference, first_of, granted}
use Rattle.planning.specs.Rectangles.{Longest, rectangle}
use Rattle.planning.specs.Right.{Right}
use Rattle.slots.specs.declared.slot.Slot.{Slot}
use Rattle.planning.specs.declared.request.Request.{Request}
use Rattle.planning.specs.declared.rectangle.Rectangle.{Rectangle}
use Rattle.planning.proofs.Members.{in_map, map_in}
use Rattle.planning.proofs.Slides.{search_complete, search_sound}
use Rattle.planning.proofs.Stretches.{rectangle_longest}
use Rattle.planning.proofs.Choices.{choice_best}

none_in : (policy : Preference) (q : Rectangle) (rs : List Rectangle) → first_of policy rs ≡ None → In q rs → ⊥
none_in policy q [] e i = i
none_in policy q (r ∷ rs) e i = let z : ◌≡◌ {A = ℕ} 0 1 = cc in omega arith

module _ {L : Type 0} (k : Kind L) (c : ℕ) (laws : Laws k c) (policy : Preference) (h : ℕ) (steps : List (Slot L)) (request : Request) (wants : 1 ≤ request.wanted) (lasts : 1 ≤ request.duration) where
  abbrev load : ℕ → L
  load = at k.nothing steps

  abbrev starts : List ℕ
  starts = feasible k c load request steps

  pub right : (o : Option Rectangle) → granted k c policy h load request steps ≡ o → Right k c policy h load request steps o
  right None e =
      λ s w can. let t = search_complete k c laws load steps request (λ m. refl) wants lasts s w can in
      none_in policy (rectangle k c h load request t.0) (map (rectangle k c h load request) starts) e (in_map (rectangle k c h load request) t.0 starts t.1)
  right (Some r) e =
      let best = choice_best policy (map (rectangle k c h load request) starts) r e in
      let from = map_in (rectangle k c h load request) r starts best.among in
      let same : from.0 ≡ r.start = sym (ap (λ (q : Rectangle). q.start) from.2) in
      let own : r ≡ rectangle k c h load request r.start = from.2 ∙ ap (rectangle k c h load request) same in
      let is = search_sound k c laws load steps request wants lasts from.0 from.1 in
      let inside : So (in_window request r.start) = subst (λ s. So (in_window request s)) same is.0 in
      let parts = and_parts (leb request.ready r.start) (leb (r.start + request.duration) request.deadline) inside in
      record {
        inside = inside;
        can = subst (CanStart k c load request) same is.1;
        its_own = own;
        longest = λ late. subst (Longest k h load request r.start) (sym own) (rectangle_longest k c laws h load request r.start (omega (arith, leb-true _ _ parts.1)));
        unbeaten = λ s i. best.unbeaten (rectangle k c h load request s) (in_map (rectangle k c h load request) s starts i);
        earliest = λ s i. best.earliest (rectangle k c h load request s) (in_map (rectangle k c h load request) s starts i);
      }
