use Rattle.std.proofs.Common.{◌≡◌, ℕ, List, true, false, Some, sym, ap, ◌∙◌, subst}
use Rattle.std.specs.Prelude.{is_some}
use Rattle.std.specs.Map.{update}
use Rattle.std.specs.Str.{bytes_eq}
use Rattle.std.proofs.lemmas.Map.Text.{hash_map_updates_str}
use Rattle.pat_cover_certificates.specs.Indexes.{place_of}
use Rattle.pat_cover_certificates.proofs.Indexing.{stays, is_new, some_there, none_there}
use Rattle.pat_cover_certificates.proofs.set_index.add_base.Goals as goal

pub returns-then-contains_key : goal.returns-then-contains_key
returns-then-contains_key c =
    let es = c.args.by_base.now.entries in
    let is : is_some (place_of es c.args.base.now.counts) ≡ true = ap (λ x. is_some (place_of es x)) (sym c.as_slice-counts.ensures) ∙ sym c.contains_key.ensures ∙ c.if-contains_key.true in
    let there = some_there (place_of es c.args.base.now.counts) is in
    stays c.args.base.now c.args.place there.0 es there.1 c.counts_are_all.ensures

pub returns : goal.returns
returns c =
    let es = c.args.by_base.now.entries in
    let new = c.insert.new.self.entries in
    let not : is_some (place_of es c.args.base.now.counts) ≡ false = ap (λ x. is_some (place_of es x)) (sym c.as_slice-counts.ensures) ∙ sym c.contains_key.ensures ∙ c.if-contains_key.false in
    is_new c.args.base.now c.args.place es new (none_there (place_of es c.args.base.now.counts) not)
    (subst (λ (x : List ℕ). (q : List ℕ) → place_of new q ≡ update bytes_eq (place_of es) x (Some c.args.place) q) c.as_slice-counts.ensures
    (hash_map_updates_str c.as_slice-counts.result.now c.args.by_base.now c.insert.new.self _ c.in_ok-insert.ensures.updates))
    c.counts_are_all.ensures
