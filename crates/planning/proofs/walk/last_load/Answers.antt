use Rattle.std.proofs.Common.{◌≡◌, ◌-◌, ◌<◌, ◌≤◌, length, get_or, List, Some, None, Option, Bor, rules, sym, ◌∙◌, ap, arith}
use Rattle.std.specs.Prelude.{MatchOption, IfSome}
use Rattle.std.proofs.lemmas.List.{nil_from_length}
use Rattle.slots.specs.declared.slot.Slot.{Slot}
use Rattle.planning.specs.Walks.{last_value}
use Rattle.planning.proofs.Splits.{last_is}
use Rattle.planning.proofs.walk.last_load.Goals as goal

is_last : {L : Type 0} (nothing v : L) (xs : List (Slot L)) (o : Option (Bor (Slot L))) → MatchOption o (v ≡ nothing) (λ x. v ≡ x.now.value) → MatchOption o (length xs ≤ 0) (λ _. 0 < length xs) → IfSome o (λ x. x.now ≡ get_or xs (length xs - 1) x.now) → v ≡ last_value nothing xs
is_last nothing v xs None told here last = told ∙ sym (ap (last_value nothing) (nil_from_length xs (omega arith)))
is_last nothing v xs (Some x) told here last = told ∙ last_is nothing (length xs - 1) x.now xs (omega arith) last

pub returns : goal.returns
returns g c = is_last g.L.Units.kind.nothing c.map_or.result c.args.slots.now c.last.result (search rules) (search rules) c.last.ensures.item.1
