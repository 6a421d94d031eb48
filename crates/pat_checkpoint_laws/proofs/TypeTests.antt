-- What a part gives, by certificates.
use Rattle.std.proofs.Common.{◌≡◌, ℕ, true, nat_eq, List, [], ◌∷◌, Option, Some, None, refl, subst}
use Rattle.std.proofs.lemmas.Bool.{and_parts, and_from, eqb-true, eq-eqb}
use Rattle.pat_words_spec.specs.Patterns.{Pat, Included}
use Rattle.pat_semantics_spec.specs.Programs.{Program, Polarity, Sending, Receiving}
use Rattle.pat_semantics_spec.specs.Configs.{Frame}
use Rattle.pat_inclusion_spec.specs.Values.{Scope, pattern_of, filled}
use Rattle.pat_inclusion_spec.specs.Certificates.{Cert, Inclusion, is_shown}
use Rattle.pat_inclusion_laws.proofs.Shown.{ValuesFit, shown_includes}
use Rattle.pat_type_system_spec.specs.Types.{TypeOf, BaseTerm, MailboxTerm, PatternFits, TypeFits, kind_of_type}
use Rattle.pat_type_system_spec.specs.Holdings.{type_at, bound_of, wanted}
use Rattle.pat_type_schemes_spec.specs.Compared.{polarity_eq}
use Rattle.pat_type_schemes_spec.specs.NodeTypes.{result_under}
use Rattle.pat_derivation_spec.specs.Demands.{same_interface, fit_by, inclusion}
use Rattle.pat_derivation_spec.specs.Derivations.{Derivation, scope_of, written_typing, typing_of}
use Rattle.pat_derivation_laws.proofs.DemandsMet.{base_same}
use Rattle.pat_derivation_laws.proofs.Filled.{filled_to, filled_from}
use Rattle.pat_checkpoint_spec.specs.Kinds.{types_agree, type_needs, is_certified}
use Rattle.pat_checkpoint_laws.proofs.PartTests.{same_base}

polarity_so : (p q : Polarity) → polarity_eq p q ≡ true → p ≡ q
polarity_so Sending Sending h = refl
polarity_so Receiving Receiving h = refl
polarity_so Sending Receiving h = cc
polarity_so Receiving Sending h = cc

polarity_self : (q : Polarity) → polarity_eq q q ≡ true
polarity_self Sending = refl
polarity_self Receiving = refl

-- what is shown is included once values are put in
pub shown_filled : (s : Scope) (q : Inclusion) (k : Option Cert) → ValuesFit s → is_shown s q k ≡ true → Included (filled s q.left) (filled s q.right)
shown_filled s q k fit h w i = filled_from s q.right w (shown_includes s q.interface q.left q.right k fit h w (filled_to s q.left w i))

fit_so : (s : Scope) (i : Option ℕ) (q : Polarity) (e f : Pat) (k : Option Cert) → ValuesFit s → is_shown s (fit_by q i e f) k ≡ true → PatternFits q (filled s e) (filled s f)
fit_so s i Sending e f k fit h = shown_filled s (inclusion i f e) k fit h
fit_so s i Receiving e f k fit h = shown_filled s (inclusion i e f) k fit h

-- types that agree, whose inclusion is shown, fit
pub type_fits : (s : Scope) (t u : TypeOf) (k : Option Cert) → ValuesFit s → types_agree t u ≡ true → is_certified s (type_needs t u) k ≡ true → TypeFits (result_under (pattern_of s) t) (result_under (pattern_of s) u)
type_fits s (BaseTerm b) (BaseTerm c) k fit a h = base_same b c a
type_fits s (MailboxTerm i q e) (MailboxTerm j r f) k fit a h =
    let b = and_parts (nat_eq i j) (polarity_eq q r) a in
    record {
      interface = eqb-true i j b.0;
      polarity = polarity_so q r b.1;
      usage = tt;
      pattern = fit_so s (same_interface i j) r e f k fit h;
    }
type_fits s (BaseTerm b) (MailboxTerm j r f) k fit a h = cc
type_fits s (MailboxTerm i q e) (BaseTerm b) k fit a h = cc

-- and types that fit agree
pub fits_agree : (s : Scope) (t u : TypeOf) → TypeFits (result_under (pattern_of s) t) (result_under (pattern_of s) u) → types_agree t u ≡ true
fits_agree s (BaseTerm b) (BaseTerm c) h = same_base b c h
fits_agree s (MailboxTerm i q e) (MailboxTerm j r f) h =
    and_from (nat_eq i j) (polarity_eq q r) (eq-eqb i j h.interface) (subst (λ x. polarity_eq q x ≡ true) h.polarity (polarity_self q))
fits_agree s (BaseTerm b) (MailboxTerm j r f) h = absurd h
fits_agree s (MailboxTerm i q e) (BaseTerm b) h = absurd h

-- ---- what is wanted

-- what frames want is what they want as it is written, with values put in
pub wanted_filled : (p : Program) (d : Derivation) (fs : List Frame) → wanted p (typing_of p d) fs ≡ result_under (pattern_of (scope_of p d)) (wanted p (written_typing p d) fs)
wanted_filled p d [] = refl
wanted_filled p d (f ∷ fs) = go (bound_of p.nodes f.body)
  where
    go : (o : Option ℕ) → type_at (typing_of p d) o ≡ result_under (pattern_of (scope_of p d)) (type_at (written_typing p d) o)
    go None = refl
    go (Some m) = refl

-- values change no kind
pub kind_filled : (s : Scope) (t : TypeOf) → kind_of_type (result_under (pattern_of s) t) ≡ kind_of_type t
kind_filled s (BaseTerm b) = refl
kind_filled s (MailboxTerm i q e) = refl
