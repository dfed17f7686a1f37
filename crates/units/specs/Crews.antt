-- Crew: a load names mechanics. Mechanic k is the member k - 1 of its mask, and so worth 2 ^ (k - 1). Assumes nothing.
use Rattle.std.specs.Prelude.{ℕ, ◌-◌, ◌^◌, min, Bool, cond, ◌&&◌, Some, None, Option, ◌==◌, bit_and, bit_or, count_ones, nat_le}
use Rattle.units.specs.Kinds.{Kind}
use Rattle.units.specs.Sets.{without, lowest}
use Rattle.units.specs.declared.crew.Crew.{Crew}

abbrev pub of_mask : ℕ → Crew
of_mask m = record { mask = m }

-- the mechanics numbered up to c, and never more than 64
abbrev pub mechanics : ℕ → ℕ
mechanics c = 2 ^ min c 64 - 1

-- those of them whom the load does not name
abbrev pub idle : ℕ → Crew → ℕ
idle c l = without (mechanics c) l.mask

abbrev pub crew_same : Crew → Crew → Bool
crew_same a b = a.mask == b.mask

-- the union
abbrev pub crew_joined : Crew → Crew → Crew
crew_joined a b = of_mask (bit_or a.mask b.mask)

-- the claim shares no mechanic with the load, and names none above the capacity
abbrev pub crew_clear : ℕ → Crew → Crew → Bool
crew_clear c p l = bit_and l.mask p.mask == 0 && without p.mask (mechanics c) == 0

abbrev pub crew_put : ℕ → Crew → Crew → Crew
crew_put c p l = cond (crew_clear c p l) (crew_joined l p) l

-- a load contains a claim when it names all its mechanics
abbrev pub crew_lift : Crew → Crew → Crew
crew_lift p l = cond (without p.mask l.mask == 0) (of_mask (without l.mask p.mask)) l

abbrev pub crew_free : ℕ → Crew → ℕ
crew_free c l = count_ones (idle c l)

-- those of the lowest numbers
abbrev pub crew_pick : ℕ → ℕ → Crew → Option Crew
crew_pick c n l = cond (nat_le n (crew_free c l)) (Some (of_mask (lowest n (idle c l)))) None

abbrev pub crew_kind : Kind Crew
crew_kind = record {
  most = 64;
  nothing = of_mask 0;
  same = crew_same;
  joined = crew_joined;
  clear = crew_clear;
  put = crew_put;
  lift = crew_lift;
  size = λ p. count_ones p.mask;
  free = crew_free;
  pick = crew_pick;
}
