-- Which rule is the first that is broken, by the tests before it.
use Rattle.std.proofs.Common.{◌≡◌, Bool, true, false, Option, Some, None, refl, sym, ap, ◌∙◌}
use Rattle.std.specs.Prelude.{if◌then◌else◌}
use Rattle.std.proofs.lemmas.Bool.{cond-true, cond-false}
use Rattle.pat_semantics_spec.specs.Programs.{Program}
use Rattle.pat_derivation_spec.specs.Derivations.{Derivation}
use Rattle.pat_derivation_spec.specs.Conditions.{Place}
use Rattle.pat_derivation_spec.specs.Rules.{has_shape, has_words, has_no_alias, uses_well, drops_well, payloads_stand_apart, guard_covers, certs_show}
use Rattle.pat_derivation_spec.specs.Validity.{Rule, ShapeRule, EmptyRule, AliasRule, UseRule, DropRule, PayloadRule, CoversRule, CertRule, broken_or, broken_at}
use Rattle.pat_judge.specs.Views.{after_alias}

passes : (b : Bool) (rule : Rule) (after : Option Rule) → b ≡ true → broken_or b rule after ≡ after
passes b rule after h = cond-true b after (Some rule) h

breaks : (b : Bool) (rule : Rule) (after : Option Rule) → b ≡ false → Some rule ≡ broken_or b rule after
breaks b rule after h = sym (cond-false b after (Some rule) h)

module _ (p : Program) (d : Derivation) (h : Place) where
  abbrev covers_on : Option Rule
  covers_on = broken_or (guard_covers h) CoversRule (broken_or (certs_show p d h) CertRule None)

  abbrev payload_on : Option Rule
  payload_on = broken_or (payloads_stand_apart p d h) PayloadRule covers_on

  abbrev drop_on : Option Rule
  drop_on = broken_or (drops_well p d h) DropRule payload_on

  pub breaks_use : uses_well p d h ≡ false → Some UseRule ≡ after_alias p d h
  breaks_use u = breaks (uses_well p d h) UseRule drop_on u

  pub breaks_drop : uses_well p d h ≡ true → drops_well p d h ≡ false → Some DropRule ≡ after_alias p d h
  breaks_drop u w = breaks (drops_well p d h) DropRule payload_on w ∙ sym (passes (uses_well p d h) UseRule drop_on u)

  pub breaks_payload : uses_well p d h ≡ true → drops_well p d h ≡ true → payloads_stand_apart p d h ≡ false → Some PayloadRule ≡ after_alias p d h
  breaks_payload u w a =
      breaks (payloads_stand_apart p d h) PayloadRule covers_on a
      ∙ sym (passes (uses_well p d h) UseRule drop_on u ∙ passes (drops_well p d h) DropRule payload_on w)

  reach_covers : uses_well p d h ≡ true → drops_well p d h ≡ true → payloads_stand_apart p d h ≡ true → after_alias p d h ≡ covers_on
  reach_covers u w a =
      passes (uses_well p d h) UseRule drop_on u ∙ passes (drops_well p d h) DropRule payload_on w ∙ passes (payloads_stand_apart p d h) PayloadRule covers_on a

  pub breaks_covers : uses_well p d h ≡ true → drops_well p d h ≡ true → payloads_stand_apart p d h ≡ true → guard_covers h ≡ false → Some CoversRule ≡ after_alias p d h
  breaks_covers u w a c =
      breaks (guard_covers h) CoversRule (broken_or (certs_show p d h) CertRule None) c ∙ sym (reach_covers u w a)

  reach_cert : uses_well p d h ≡ true → drops_well p d h ≡ true → payloads_stand_apart p d h ≡ true → guard_covers h ≡ true → after_alias p d h ≡ broken_or (certs_show p d h) CertRule None
  reach_cert u w a c = reach_covers u w a ∙ passes (guard_covers h) CoversRule (broken_or (certs_show p d h) CertRule None) c

  pub breaks_cert : uses_well p d h ≡ true → drops_well p d h ≡ true → payloads_stand_apart p d h ≡ true → guard_covers h ≡ true → certs_show p d h ≡ false → Some CertRule ≡ after_alias p d h
  breaks_cert u w a c s = breaks (certs_show p d h) CertRule None s ∙ sym (reach_cert u w a c)

  pub breaks_none : uses_well p d h ≡ true → drops_well p d h ≡ true → payloads_stand_apart p d h ≡ true → guard_covers h ≡ true → certs_show p d h ≡ true → None ≡ after_alias p d h
  breaks_none u w a c s = sym (reach_cert u w a c ∙ passes (certs_show p d h) CertRule None s)

  -- ---- the first three

  abbrev alias_on : Option Rule
  alias_on = broken_or (has_no_alias p d h) AliasRule (after_alias p d h)

  abbrev empty_on : Option Rule
  empty_on = broken_or (has_words p d h) EmptyRule alias_on

  pub breaks_shape : has_shape p d h ≡ false → Some ShapeRule ≡ broken_at p d h
  breaks_shape s = breaks (has_shape p d h) ShapeRule empty_on s

  pub breaks_empty : has_shape p d h ≡ true → has_words p d h ≡ false → Some EmptyRule ≡ broken_at p d h
  breaks_empty s e = breaks (has_words p d h) EmptyRule alias_on e ∙ sym (passes (has_shape p d h) ShapeRule empty_on s)

  pub breaks_alias : has_shape p d h ≡ true → has_words p d h ≡ true → has_no_alias p d h ≡ false → Some AliasRule ≡ broken_at p d h
  breaks_alias s e a =
      breaks (has_no_alias p d h) AliasRule (after_alias p d h) a
      ∙ sym (passes (has_shape p d h) ShapeRule empty_on s ∙ passes (has_words p d h) EmptyRule alias_on e)

  pub goes_on : has_shape p d h ≡ true → has_words p d h ≡ true → has_no_alias p d h ≡ true → broken_at p d h ≡ after_alias p d h
  goes_on s e a =
      passes (has_shape p d h) ShapeRule empty_on s ∙ passes (has_words p d h) EmptyRule alias_on e ∙ passes (has_no_alias p d h) AliasRule (after_alias p d h) a
