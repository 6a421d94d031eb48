use Rattle.pat_solve_laws.proofs.Known.{Known}
use Rattle.pat_solve_laws.proofs.Alike.{needed_listed, needed_shown, demands_written, derived_valid, shown_typable}
use Rattle.pat_solve_laws.proofs.derived_laws.Goals as goal

pub returns : goal.returns
returns c =
    let known : Known = record {
      unbound = c.environment_laws.ensures.unbound;
      body = c.scope_laws.ensures.body;
      part = c.scope_laws.ensures.part;
      empty = c.reading_laws.ensures.empty;
      alias = c.reading_laws.ensures.alias;
      payload = c.reading_laws.ensures.payload;
      covers = c.reading_laws.ensures.covers;
      types = c.enough_laws.ensures.types;
      fits = c.found_laws.ensures.fits;
      ordered = c.found_laws.ensures.ordered;
      shown = c.shown_laws.ensures.shown;
    } in
    record { listed = needed_listed known; shown = needed_shown known; written = demands_written known; valid = derived_valid known; typable = shown_typable known }
