use Rattle.pat_solve_laws.proofs.Known.{Known}
use Rattle.pat_solve_laws.proofs.Solved.{undecided_says, solved_shows, solved_valid, solved_exactly}
use Rattle.pat_solve_laws.proofs.answer_laws.Goals as goal

-- Each law of this crate fills this record from its own calls of the laws below.
pub returns : goal.returns
returns c =
    let known : Known = record {
      unbound = c.environment_laws.ensures.unbound;
      body = c.scope_laws.ensures.body;
      part = c.scope_laws.ensures.part;
      empty = c.reading_laws.ensures.empty;
      alias = c.reading_laws.ensures.alias;
      payload = c.reading_laws.ensures.payload;
      covers = c.reading_laws.ensures.covers;
      types = c.enough_laws.ensures.types;
      fits = c.found_laws.ensures.fits;
      ordered = c.found_laws.ensures.ordered;
      shown = c.shown_laws.ensures.shown;
    } in
    let grids = c.search_laws.ensures.grids in
    record {
      undecided = undecided_says;
      shows = solved_shows known grids;
      valid = solved_valid known grids;
      exactly = solved_exactly known grids;
    }
