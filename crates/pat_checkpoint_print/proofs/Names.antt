-- Names of interfaces and of tags, in the code and in the definitions.
use Rattle.std.proofs.Common.{◌≡◌, ℕ, zero, suc, ◌<◌, ◌≤◌, true, List, [], ◌∷◌, length, map, get_or, refl, ap, ◌∙◌, subst, arith}
use Rattle.std.specs.Prelude.{nat_lt, slice_get, slice_index_or}
use Rattle.std.proofs.lemmas.Bool.Decides.{nat_tests}
use Rattle.pat_core.specs.declared.program.Interface.{Interface}
use Rattle.pat_core.specs.declared.program.TagDecl.{TagDecl}
use Rattle.pat_core.specs.Views.{interface_view, tag_view}
use Rattle.pat_derivation_text_spec.specs.DerivationText.{tags_named}

name_from : (is : List Interface) (k : ℕ) (d : Interface) → k < length is → d ≡ get_or is k d → d.name ≡ slice_index_or (map (λ j. j.name) (map interface_view is)) k []
name_from [] k d l e = absurd (omega arith)
name_from (i ∷ is) zero d l e = ap (λ x. x.name) e
name_from (i ∷ is) (suc k) d l e = name_from is k d (omega arith) e

pub name_there : (is us : List Interface) (k : ℕ) (d : Interface) → us ≡ is → true ≡ nat_lt k (length us) → d ≡ get_or us k d → d.name ≡ slice_index_or (map (λ j. j.name) (map interface_view is)) k []
name_there is us k d same test e =
    let within : k < length us = grind (arith, nat_tests) in
    name_from is k d (subst (λ l. k < length l) same within) (e ∙ ap (λ l. get_or l k d) same)

names_same : (ts : List TagDecl) → map (λ t. t.name) ts ≡ map (λ t. t.name) (map tag_view ts)
names_same [] = refl
names_same (t ∷ ts) = ap (λ l. t.name ∷ l) (names_same ts)

pub tags_there : (is : List Interface) (k : ℕ) (d : Interface) → k < length is → d ≡ get_or is k d → map (λ t. t.name) d.tags ≡ tags_named (slice_get (map interface_view is) k)
tags_there [] k d l e = absurd (omega arith)
tags_there (i ∷ is) zero d l e = names_same d.tags ∙ ap (λ x. map (λ t. t.name) (map tag_view x.tags)) e
tags_there (i ∷ is) (suc k) d l e = tags_there is k d (omega arith) e

pub tags_beyond : (is : List Interface) (k : ℕ) → length is ≤ k → [] ≡ tags_named (slice_get (map interface_view is) k)
tags_beyond [] k l = refl
tags_beyond (x ∷ is) zero l = absurd (omega arith)
tags_beyond (x ∷ is) (suc k) l = tags_beyond is k (omega arith)
