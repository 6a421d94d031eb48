use Rattle.std.proofs.Common.{rules, ◌≡◌, ◌∷◌, Some, None, ap, sym, ◌∙◌, subst, Option}
use Rattle.std.specs.Option.{IsSome}
use Rattle.atomic_table.specs.Table.{rest}
use Rattle.pat_turn.specs.Rule.{Comes}
use Rattle.pat_turn.specs.Passes.{known, with_seen, idled}
use Rattle.pat_turn.proofs.Steps.{draws, looks}
use Rattle.pat_turn.proofs.Waiting.{came, slot_is}
use Rattle.pat_turn.proofs.turn.take.Goals as goal

pub fetch_add-ticket-requires : goal.fetch_add-ticket-requires
fetch_add-ticket-requires g c = (search rules, search rules, draws g.V.Kept.name g.V.Kept.log g.V.Kept.by _ _ _ _ _ c.requires.idle.0)

pub load-served-requires : goal.load-served-requires
load-served-requires g c = (search rules, search rules, looks g.V.Kept.name g.V.Kept.log g.V.Kept.by _ _ _ _ _)

pub exchange-requires : goal.exchange-requires
exchange-requires g c =
    let w = came g.V.Kept.name g.V.Kept.log g.V.Kept.by c.args.seat.now.me c.fetch_add-ticket.new.seat.me c.loop.seat.me c.load-served.new.seat.me c.fetch_add-ticket.result c.load-served.result c.fetch_add-ticket.ensures.2 c.loop.invariant.1 c.load-served.ensures.2 c.if-served-ticket.true c.requires.idle.1 in
    (search rules, (Some w.0, ap (λ m. m.1) w.2 ∙ ap (λ l. (0, Some w.0) ∷ rest l) (sym (ap (λ m. m.1) w.2))))

pub unwrap-requires : goal.unwrap-requires
unwrap-requires g c =
    let w = came g.V.Kept.name g.V.Kept.log g.V.Kept.by c.args.seat.now.me c.fetch_add-ticket.new.seat.me c.loop.seat.me c.load-served.new.seat.me c.fetch_add-ticket.result c.load-served.result c.fetch_add-ticket.ensures.2 c.loop.invariant.1 c.load-served.ensures.2 c.if-served-ticket.true c.requires.idle.1 in
    let is : c.exchange.result ≡ Some w.0 = slot_is c.load-served.new.seat.me.1 _ _ _ _ c.exchange.ensures.2 (ap (λ m. m.1) w.2) in
    subst (λ (o : Option g.row.V.Denot). IsSome o) (sym is) (search rules)

pub returns-then-served-ticket-clause-value : goal.returns-then-served-ticket-clause-value
returns-then-served-ticket-clause-value g c =
    let w = came g.V.Kept.name g.V.Kept.log g.V.Kept.by c.args.seat.now.me c.fetch_add-ticket.new.seat.me c.loop.seat.me c.load-served.new.seat.me c.fetch_add-ticket.result c.load-served.result c.fetch_add-ticket.ensures.2 c.loop.invariant.1 c.load-served.ensures.2 c.if-served-ticket.true c.requires.idle.1 in
    let is : c.exchange.result ≡ Some w.0 = slot_is c.load-served.new.seat.me.1 _ _ _ _ c.exchange.ensures.2 (ap (λ m. m.1) w.2) in
    let same : w.0 ≡ c.unwrap.result = search rules in
    subst (λ x. Comes g.V.Kept.name g.V.Kept.log g.V.Kept.by (known c.args.seat.now) x) same w.3

pub returns-then-served-ticket-clause-seat : goal.returns-then-served-ticket-clause-seat
returns-then-served-ticket-clause-seat g c =
    let w = came g.V.Kept.name g.V.Kept.log g.V.Kept.by c.args.seat.now.me c.fetch_add-ticket.new.seat.me c.loop.seat.me c.load-served.new.seat.me c.fetch_add-ticket.result c.load-served.result c.fetch_add-ticket.ensures.2 c.loop.invariant.1 c.load-served.ensures.2 c.if-served-ticket.true c.requires.idle.1 in
    let is : c.exchange.result ≡ Some w.0 = slot_is c.load-served.new.seat.me.1 _ _ _ _ c.exchange.ensures.2 (ap (λ m. m.1) w.2) in
    let same : w.0 ≡ c.unwrap.result = search rules in (
      search rules,
      (w.1, ap (λ m. m.0.stage) c.exchange.ensures.3 ∙ ap (λ m. m.0.stage) w.2, ap (λ m. m.1) c.exchange.ensures.3 ∙ ap (λ m. (0, None) ∷ rest m.1) w.2),
      ap (λ m. idled m.0) c.exchange.ensures.3 ∙ (ap (λ m. idled m.0) w.2 ∙ ap (λ x. with_seen (known c.args.seat.now) (g.V.Kept.log x)) same),
    )
