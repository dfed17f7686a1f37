use Rattle.std.proofs.Common.{cond, drop, Some, None, sym, ap, ◌∙◌}
use Rattle.std.specs.Simd.{first_chunks}
use Rattle.std.proofs.lemmas.Bool.{lt-ltb, le-ltb}
use Rattle.bookings.specs.declared.refusal.FileFault.TheVariants.{Room}
use Rattle.boardfile.specs.declared.header.Header.{Header}
use Rattle.boardfile.proofs.Opened.{by_the_room}
use Rattle.boardfile.proofs.read.open_file.Goals as goal

-- The check finds these two alone, but takes minutes to refuse a body that compares another number with the room.
pub returns-then-room-header : goal.returns-then-room-header
returns-then-room-header g c =
    let header = c.in_ok-header.header in
    let first = c.in_ok-header.ensures in
    by_the_room g.L.Units.kind g.L.Filed.filing c.args.room c.args.bytes.now header first.0 first.1 (sym c.header_allowed.ensures ∙ c.if-not-header_allowed.false) c.in_ok-rows.ensures.0
    ∙ ap (λ b. cond b (Some Room) None) (lt-ltb c.args.room header.count c.if-room-header.true)

pub returns : goal.returns
returns g c =
    let header = c.in_ok-header.header in
    let first = c.in_ok-header.ensures in (
      by_the_room g.L.Units.kind g.L.Filed.filing c.args.room c.args.bytes.now header first.0 first.1 (sym c.header_allowed.ensures ∙ c.if-not-header_allowed.false) c.in_ok-rows.ensures.0
          ∙ ap (λ b. cond b (Some Room) None) (le-ltb c.args.room header.count c.if-room-header.false),
      first.1,
      c.in_ok-rows.ensures.1 ∙ ap (λ (h : Header). first_chunks 24 h.count (drop 24 c.args.bytes.now)) first.1,
    )
