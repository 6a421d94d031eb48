-- The worked examples, by computation.
use Rattle.std.proofs.Common.{◌≡◌, true, false, [], ◌∷◌, refl}
use Rattle.pat_words_spec.specs.Patterns.{Zero, One, Tag, Sum, Prod, Star, Var}
use Rattle.pat_inclusion_spec.specs.ClosedForms.{sets_of}
use Rattle.pat_inclusion_spec.specs.Covers.{is_cover}
use Rattle.pat_inclusion_spec.specs.CutWords.{cuts_lie}
use Rattle.pat_inclusion_spec.specs.Certificates.{CoverCert, GridCert}
use Rattle.pat_derivation_spec.specs.Scopes.{is_in_scope}
use Rattle.pat_derivation_spec.specs.Validity.{ShapeRule, EmptyRule, AliasRule, UseRule, DropRule, PayloadRule, CoversRule, CertRule, broken_rule, first_bad}
use Rattle.pat_examples.specs.derivations.Build.{unit, gives_receiving, variable, receives, sends, receives_second, line, derivation, entry}
use Rattle.pat_examples.specs.safety.Safe.{one_message, delegation, future}
use Rattle.pat_examples.specs.safety.Unsafe.{leak, alias, beside}
use Rattle.pat_examples.specs.derivations.Programs.{sends_twice, handing_on, pairs, apart, one_tag, any, some_or_none, with_grid, uncovered, sends_on}
use Rattle.pat_examples.specs.derivations.Derivations.{one_message_derived, with_line, with_more, with_value, with_second, sends_twice_cut, handed_on, pairs_cover, wrong_cover, pairs_again, grid_derived, delegation_derived, future_derived, leak_derived, alias_derived, beside_derived, uncovered_derived, sends_on_derived}
use Rattle.pat_examples.specs.derivations.Claims.{Accepted, RejectedAt, HasForm, HasCuts}

pub one_message_valid : Accepted one_message one_message_derived
unfolding first_bad broken_rule is_in_scope
one_message_valid = refl

pub one_message_cert : RejectedAt one_message (with_line one_message_derived 3 (line unit (sends 0 0 One ∷ []) [])) 2 CertRule
unfolding first_bad broken_rule is_in_scope
one_message_cert = refl

pub one_line_more : RejectedAt one_message (with_more one_message_derived (line unit [] [])) 7 ShapeRule
unfolding first_bad broken_rule is_in_scope
one_line_more = refl

pub variable_of_nothing : RejectedAt one_message (with_value one_message_derived Zero) 1 CertRule
unfolding first_bad broken_rule is_in_scope
variable_of_nothing = refl

pub second_class : RejectedAt one_message (with_line one_message_derived 4 (line unit (receives_second 0 0 (Tag 0) ∷ []) [])) 4 UseRule
unfolding first_bad broken_rule is_in_scope
second_class = refl

pub pairs_valid : Accepted (handing_on pairs apart) (handed_on apart pairs_cover)
unfolding first_bad broken_rule is_in_scope
pairs_valid = refl

pub pair_valid : Accepted (handing_on (Prod (Tag 0) (Tag 1)) pairs) (handed_on pairs (CoverCert (entry 0 (1 ∷ []) [] ∷ [])))
unfolding first_bad broken_rule is_in_scope
pair_valid = refl

pub pairs_wrong : RejectedAt (handing_on pairs apart) (handed_on apart wrong_cover) 0 CertRule
unfolding first_bad broken_rule is_in_scope
pairs_wrong = refl

pub pairs_left_over : RejectedAt (handing_on pairs pairs) pairs_again 0 CertRule
unfolding first_bad broken_rule is_in_scope
pairs_left_over = refl

pub grid_two : Accepted (one_tag any some_or_none) (handed_on some_or_none (GridCert 2))
unfolding first_bad broken_rule is_in_scope
grid_two = refl

pub grid_one : RejectedAt (one_tag any some_or_none) (handed_on some_or_none (GridCert 1)) 0 CertRule
unfolding first_bad broken_rule is_in_scope
grid_one = refl

pub grid_form : Accepted with_grid (grid_derived 2 ((0 ∷ []) ∷ (1 ∷ []) ∷ (2 ∷ []) ∷ []) (GridCert 2))
unfolding first_bad broken_rule is_in_scope
grid_form = refl

pub grid_form_short : RejectedAt with_grid (grid_derived 2 ((0 ∷ []) ∷ (1 ∷ []) ∷ []) (GridCert 2)) 1 CertRule
unfolding first_bad broken_rule is_in_scope
grid_form_short = refl

pub grid_form_descends : RejectedAt with_grid (grid_derived 2 ((0 ∷ []) ∷ (2 ∷ []) ∷ (1 ∷ []) ∷ []) (GridCert 2)) 0 ShapeRule
unfolding first_bad broken_rule is_in_scope
grid_form_descends = refl

pub grid_form_other_bound : RejectedAt with_grid (grid_derived 2 ((0 ∷ []) ∷ (1 ∷ []) ∷ (2 ∷ []) ∷ []) (GridCert 3)) 1 CertRule
unfolding first_bad broken_rule is_in_scope
grid_form_other_bound = refl

pub delegation_valid : Accepted delegation delegation_derived
unfolding first_bad broken_rule is_in_scope
delegation_valid = refl

pub future_valid : Accepted future future_derived
unfolding first_bad broken_rule is_in_scope
future_valid = refl

pub future_without_cert : RejectedAt future (with_line future_derived 9 (line unit (receives 0 0 One ∷ []) [])) 9 CertRule
unfolding first_bad broken_rule is_in_scope
future_without_cert = refl

pub leak_drops : RejectedAt leak leak_derived 0 DropRule
unfolding first_bad broken_rule is_in_scope
leak_drops = refl

pub alias_refused : RejectedAt alias alias_derived 3 AliasRule
unfolding first_bad broken_rule is_in_scope
alias_refused = refl

pub beside_refused : RejectedAt beside beside_derived 7 PayloadRule
unfolding first_bad broken_rule is_in_scope
beside_refused = refl

pub uncovered_refused : RejectedAt uncovered uncovered_derived 2 CoversRule
unfolding first_bad broken_rule is_in_scope
uncovered_refused = refl

pub sends_nothing : RejectedAt sends_on (sends_on_derived Zero) 0 EmptyRule
unfolding first_bad broken_rule is_in_scope
sends_nothing = refl

pub sends_any : Accepted sends_on (sends_on_derived (Star (Tag 0)))
unfolding first_bad broken_rule is_in_scope
sends_any = refl

pub no_value : RejectedAt one_message (derivation [] one_message_derived.lines) 1 ShapeRule
unfolding first_bad broken_rule is_in_scope
no_value = refl

pub missing_line : RejectedAt one_message (derivation one_message_derived.vars []) 0 ShapeRule
unfolding first_bad broken_rule is_in_scope
missing_line = refl

pub payload_returnable : RejectedAt delegation (with_line delegation_derived 4 (line unit (receives 1 0 any ∷ receives 2 1 One ∷ []) [])) 3 UseRule
unfolding first_bad broken_rule is_in_scope
payload_returnable = refl

pub foreign_tag : RejectedAt one_message (with_line one_message_derived 3 (line unit (sends 0 0 (Tag 1) ∷ []) [])) 2 CertRule
unfolding first_bad broken_rule is_in_scope
foreign_tag = refl

pub cut_off : RejectedAt sends_twice (sends_twice_cut (sends 0 0 (Prod (Tag 0) (Tag 0)) ∷ [])) 2 ShapeRule
unfolding first_bad broken_rule is_in_scope
cut_off = refl

pub cut_off_unnamed : RejectedAt sends_twice (sends_twice_cut []) 0 UseRule
unfolding first_bad broken_rule is_in_scope
cut_off_unnamed = refl

pub name_in_bound_part : RejectedAt one_message (with_line one_message_derived 1 (line (gives_receiving 0 (Var 1)) (sends 0 0 One ∷ []) [])) 1 ShapeRule
unfolding first_bad broken_rule is_in_scope
name_in_bound_part = refl

pub variable_of_another_interface : RejectedAt delegation (with_second delegation_derived (variable 0 (Tag 0))) 3 CertRule
unfolding first_bad broken_rule is_in_scope
variable_of_another_interface = refl

pub out_of_order : RejectedAt delegation (with_line delegation_derived 4 (line unit (receives 2 1 One ∷ receives_second 1 0 any ∷ []) [])) 4 ShapeRule
unfolding first_bad broken_rule is_in_scope
out_of_order = refl

pub period_left_out : is_cover 1 (sets_of 1 (Star (Tag 0))) (sets_of 1 One) (entry 0 [] ([] ∷ []) ∷ []) ≡ false
period_left_out = refl

pub large_number : is_cover 1 (sets_of 1 One) (sets_of 1 (Prod (Tag 0) (Star (Tag 0)))) (entry 0 (4294967295 ∷ []) [] ∷ []) ≡ false
large_number = refl

pub form_of_star : HasForm 2 (Star (Sum (Tag 0) (Prod (Tag 0) (Star (Tag 1))))) ((0 ∷ 0 ∷ [], (1 ∷ 0 ∷ []) ∷ []) ∷ (1 ∷ 0 ∷ [], (1 ∷ 0 ∷ []) ∷ (0 ∷ 1 ∷ []) ∷ []) ∷ [])
form_of_star = refl

pub cuts_of_put : HasCuts 2 2 (Prod (Tag 0) (Star (Tag 1))) ((1 ∷ 2 ∷ []) ∷ (1 ∷ 1 ∷ []) ∷ (1 ∷ 0 ∷ []) ∷ [])
cuts_of_put = refl

pub two_in_any : cuts_lie 1 1 (Prod (Tag 0) (Tag 0)) any ≡ true
two_in_any = refl

pub two_in_one : cuts_lie 2 1 (Prod (Tag 0) (Tag 0)) (Tag 0) ≡ false
two_in_one = refl
