use Rattle.std.proofs.Common.{rules, ◌≡◌, [], ◌∷◌, Some, None, ap, sym, ◌∙◌}
use Rattle.atomic_table.specs.Table.{rest}
use Rattle.pat_turn.specs.Passes.{idled, with_seen}
use Rattle.pat_turn.proofs.Steps.{passes_on}
use Rattle.pat_turn.proofs.turn.give.Goals as goal

pub exchange-requires : goal.exchange-requires
exchange-requires g c = let slot = c.requires.holds.2 in (c.requires.table.1, (None, slot ∙ ap (λ l. (0, None) ∷ rest l) (sym slot)))

pub fetch_add-served-requires : goal.fetch_add-served-requires
fetch_add-served-requires g c =
    let may = c.requires.value in
    let same : c.exchange.new.seat.me ≡ (c.args.seat.now.me.0, (0, Some c.args.value) ∷ []) = c.exchange.ensures.3 ∙ ap (λ l. (c.args.seat.now.me.0, (0, Some c.args.value) ∷ rest l)) c.requires.holds.2 in (
      search rules,
      search rules,
      passes_on g.V.Kept.name g.V.Kept.log g.V.Kept.by _ _ _ _ _ c.args.seat.now.me.0 c.requires.holds.0 c.args.value same c.requires.holds.1 (record { named = may.named; more = may.more; log = may.log; own = may.own }),
    )

pub returns : goal.returns
returns g c =
    let same : c.exchange.new.seat.me ≡ (c.args.seat.now.me.0, (0, Some c.args.value) ∷ []) = c.exchange.ensures.3 ∙ ap (λ l. (c.args.seat.now.me.0, (0, Some c.args.value) ∷ rest l)) c.requires.holds.2 in
    let now = c.fetch_add-served.ensures.2 c.args.value (ap (λ m. m.1) same) in
    (search rules, (ap (λ m. m.0.stage) now, ap (λ m. m.1) now), ap (λ m. idled m.0) now ∙ ap (λ m. with_seen (idled m.0) (g.V.Kept.log c.args.value)) same)
