-- The names of tags are those that the definitions see, and an interface that is found.
use Rattle.std.proofs.Common.{◌≡◌, ℕ, ◌+◌, true, List, [], ◌∷◌, map, refl, sym, ap, ◌∙◌, arith, suc, ◌<◌, length, drop, get_or}
use Rattle.std.specs.Prelude.{Option, Some, option_map, bytes_eq}
use lib.Seq.{drop-cons}
use Rattle.pat_core.specs.declared.program.TagDecl.{TagDecl}
use Rattle.pat_core.specs.declared.program.Interface.{Interface}
use Rattle.pat_core.specs.Views.{tag_view, interface_view}
use Rattle.pat_derivation_lines.specs.patterns.Views.{names_of}
use Rattle.pat_derivation_text_spec.specs.LineReading.{found}
use Rattle.pat_texts_spec.proofs.Choices.{passed}

pub names_seen : (ts : List TagDecl) → names_of ts ≡ map (λ t. t.name) (map tag_view ts)
names_seen [] = refl
names_seen (t ∷ ts) = ap (λ l. t.name ∷ l) (names_seen ts)

-- the interface at the front is the one that is found
found_here : (x : List ℕ) (is rest : List Interface) (k : ℕ) (item : Interface) (whole : Option (ℕ × List (List ℕ))) → is ≡ item ∷ rest → bytes_eq item.name x ≡ true → option_map (λ r. (k + r.0, r.1)) (found x (map interface_view is)) ≡ whole → Some (k, names_of item.tags) ≡ whole
found_here x is rest k item whole same hit h =
    let others : Option (ℕ × List (List ℕ)) = option_map (λ r. (suc r.0, r.1)) (found x (map interface_view rest)) in
    let none : k + 0 ≡ k = omega arith in
    ap (λ n. Some (n, names_of item.tags)) (sym none) ∙ ap (λ l. Some (k + 0, l)) (names_seen item.tags)
    ∙ ap (option_map (λ r. (k + r.0, r.1))) (sym (passed (bytes_eq item.name x) (Some (0, map (λ t. t.name) (map tag_view item.tags))) others hit))
    ∙ ap (λ l. option_map (λ r. (k + r.0, r.1)) (found x (map interface_view l))) (sym same) ∙ h

-- and so is the one at place k among those from there on
pub found_at : (x : List ℕ) (is us : List Interface) (k : ℕ) (item d : Interface) (whole : Option (ℕ × List (List ℕ))) → us ≡ is → k < length us → item ≡ get_or us k d → bytes_eq item.name x ≡ true → option_map (λ r. (k + r.0, r.1)) (found x (map interface_view (drop k is))) ≡ whole → Some (k, names_of item.tags) ≡ whole
found_at x is us k item d whole same l e hit h =
    found_here x (drop k is) (drop (suc k) is) k item whole (ap (drop k) (sym same) ∙ drop-cons us k d l ∙ ap (λ j. j ∷ drop (suc k) us) (sym e) ∙ ap (λ l. item ∷ drop (suc k) l) same) hit h
