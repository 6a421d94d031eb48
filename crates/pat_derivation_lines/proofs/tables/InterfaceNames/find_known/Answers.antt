use Rattle.std.proofs.Common.{rules, arith, ◌≡◌, length, get_or, sym, ap, ◌∙◌}
use Rattle.std.specs.Prelude.{Some}
use Rattle.pat_derivation_lines.specs.patterns.Views.{names_of}
use Rattle.pat_derivation_lines.specs.Places.{known_place}
use Rattle.pat_derivation_lines.proofs.Places.{found_at_place}
use Rattle.pat_derivation_lines.proofs.tables.InterfaceNames.find_known.Goals as goal

pub bounds-as_slice-place : goal.bounds-as_slice-place
bounds-as_slice-place c =
    let names = c.args.self.now in
    let x = c.args.name.now in
    let there : known_place x names.places.entries ≡ Some c.in-Some.place.now = search rules in
    let found = found_at_place x names.program.now.interfaces c.in-Some.place.now (sym (names.known c.requires x) ∙ there) in
    omega (arith, found.within, ap length c.as_slice.ensures)

pub returns-in-Some : goal.returns-in-Some
returns-in-Some c =
    let names = c.args.self.now in
    let x = c.args.name.now in
    let k = c.in-Some.place.now in
    let item = c.index-as_slice-place.result in
    let there : known_place x names.places.entries ≡ Some k = search rules in
    let found = found_at_place x names.program.now.interfaces k (sym (names.known c.requires x) ∙ there) in
    ap (λ i. Some (k, names_of i.tags)) (c.index-as_slice-place.is ∙ ap (λ l. get_or l k item) c.as_slice.ensures) ∙ found.is_found item
