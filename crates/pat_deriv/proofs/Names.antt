-- An interface that the program doesn't have has no name and no tags.
use Rattle.std.proofs.Common.{◌≡◌, ℕ, zero, suc, ◌≤◌, List, [], ◌∷◌, ◌++◌, map, length, refl, sym, ap, ◌∙◌, arith}
use Rattle.std.specs.Prelude.{slice_get, slice_index_or}
use Rattle.pat_words_spec.specs.Patterns.{Pat}
use Rattle.pat_core.specs.declared.program.Interface.{Interface}
use Rattle.pat_core.specs.Views.{interface_view, tag_view}
use Rattle.pat_inclusion_spec.specs.Values.{VarValue}
use Rattle.pat_derivation_text_spec.specs.patterns.PatternText.{pat_text}
use Rattle.pat_print.specs.patterns.PatternText as print
use Rattle.pat_derivation_text_spec.specs.DerivationText.{tags_named, value_text}

name_beyond : (is : List Interface) (k : ℕ) → length is ≤ k → slice_index_or (map (λ j. j.name) (map interface_view is)) k [] ≡ []
name_beyond [] k l = refl
name_beyond (x ∷ is) zero l = absurd (omega arith)
name_beyond (x ∷ is) (suc k) l = name_beyond is k (omega arith)

tags_beyond : (is : List Interface) (k : ℕ) → length is ≤ k → tags_named (slice_get (map interface_view is) k) ≡ []
tags_beyond [] k l = refl
tags_beyond (x ∷ is) zero l = absurd (omega arith)
tags_beyond (x ∷ is) (suc k) l = tags_beyond is k (omega arith)

pub mailbox_beyond : (is : List Interface) (k : ℕ) (none : Interface) (q : ℕ) (e : Pat) → length is ≤ k → none.name ≡ [] → none.tags ≡ [] → none.name ++ q ∷ pat_text (print.tag_names (interface_view none)) e ≡ slice_index_or (map (λ j. j.name) (map interface_view is)) k [] ++ q ∷ pat_text (tags_named (slice_get (map interface_view is) k)) e
mailbox_beyond is k none q e l name tags =
    ap (λ n. n ++ q ∷ pat_text (print.tag_names (interface_view none)) e) (name ∙ sym (name_beyond is k l))
    ∙ ap (λ ts. slice_index_or (map (λ j. j.name) (map interface_view is)) k [] ++ q ∷ pat_text ts e) (ap (λ t. map (λ d. d.name) (map tag_view t)) tags ∙ sym (tags_beyond is k l))

pub var_beyond : (is : List Interface) (k : ℕ) (none : Interface) (v : VarValue) → length is ≤ k → none.name ≡ [] → none.tags ≡ [] → none.name ++ 32 ∷ value_text (print.tag_names (interface_view none)) v ≡ slice_index_or (map (λ j. j.name) (map interface_view is)) k [] ++ 32 ∷ value_text (tags_named (slice_get (map interface_view is) k)) v
var_beyond is k none v l name tags =
    ap (λ n. n ++ 32 ∷ value_text (print.tag_names (interface_view none)) v) (name ∙ sym (name_beyond is k l))
    ∙ ap (λ ts. slice_index_or (map (λ j. j.name) (map interface_view is)) k [] ++ 32 ∷ value_text ts v) (ap (λ t. map (λ d. d.name) (map tag_view t)) tags ∙ sym (tags_beyond is k l))
