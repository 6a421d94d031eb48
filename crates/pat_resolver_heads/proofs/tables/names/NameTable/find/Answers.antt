use Rattle.std.proofs.Common.{rules, ◌≡◌, ◌<◌, length, subst, sym, ℕ, Option}
use Rattle.std.specs.Prelude.{IfSome}
use Rattle.pat_resolver_heads.specs.tables.Places.{place_of}
use Rattle.pat_resolver_heads.proofs.Places.{place_below}
use Rattle.pat_resolver_heads.proofs.tables.names.NameTable.find.Goals as goal

pub returns-in-None-clause-below : goal.returns-in-None-clause-below
returns-in-None-clause-below c =
    let x = c.args.name.now in
    let place : c.copied.result ≡ place_of x c.args.self.now = search rules in
    subst (λ (o : Option ℕ). IfSome o (λ i. i < length c.args.self.now)) (sym place) (place_below x c.args.self.now)
