-- The first line that can't be shown, as an error names it.
use Rattle.std.proofs.Common.{◌≡◌, ℕ, suc, ◌+◌, List, ◌∷◌, ◌++◌, length, Option, refl, sym, ap, ◌∙◌, subst, arith}
use Rattle.std.specs.Prelude.{Result, Err, IfErr}
use Rattle.std.specs.List.{AllByRecursion}
use Rattle.pat_inclusion_spec.specs.Values.{Scope}
use Rattle.pat_inclusion_spec.specs.Certificates.{Inclusion}
use Rattle.pat_checkpoint_spec.specs.Written.{CanBeShown, IsFirstUnshown}
use Rattle.pat_checkpoint_certificates.specs.Certified.{IsLine}
use Rattle.pat_checkpoint_certificates.specs.Found.{IsUnshownFrom}
use Rattle.pat_checkpoint_certificates.specs.declared.error.CertifyError.{CertifyError}
use Rattle.pat_checkpoint_certificates.specs.declared.error.CertifyError.TheVariants.{Unshown, NoMemory}
use Rattle.pat_checkpoint_certificates.proofs.Sections.{first_here, first_later, first_before}

module _ (s : Scope) (bound : ℕ → Option ℕ) where
  pub unshown_here : (line : ℕ) (qs : List (Option Inclusion)) (q : Option Inclusion) (rest : List (Option Inclusion)) (k : ℕ) (e : CertifyError) → length qs ≡ k → AllByRecursion (CanBeShown s bound) qs → (CanBeShown s bound q → ⊥) → IsLine (line + k) e → IsUnshownFrom s bound line (qs ++ q ∷ rest) e
  unshown_here line qs q rest k NoMemory count a h is = tt
  unshown_here line qs q rest k (Unshown n) count a h is =
      (k, is, subst (λ j. IsFirstUnshown s bound (qs ++ q ∷ rest) (suc j)) count (first_here s bound qs q rest a h))

  pub unshown_later : (line next : ℕ) (qs rest : List (Option Inclusion)) (e : CertifyError) → next ≡ line + length qs → AllByRecursion (CanBeShown s bound) qs → IsUnshownFrom s bound next rest e → IsUnshownFrom s bound line (qs ++ rest) e
  unshown_later line next qs rest NoMemory is a h = tt
  unshown_later line next qs rest (Unshown n) is a h =
      let own = h.1 in
      (length qs + h.0, omega (arith, is, own), first_later s bound qs rest h.0 (length qs + h.0) refl a h.2)

  pub unshown_before : (line : ℕ) (qs rest : List (Option Inclusion)) (e : CertifyError) → IsUnshownFrom s bound line qs e → IsUnshownFrom s bound line (qs ++ rest) e
  unshown_before line qs rest NoMemory h = tt
  unshown_before line qs rest (Unshown n) h = (h.0, h.1, first_before s bound qs rest h.0 h.2)

  -- want of memory says nothing
  pub spent : {X : Type 0} (line : ℕ) (qs : List (Option Inclusion)) (res : Result X CertifyError) (given : CertifyError) → res ≡ Err given → given ≡ NoMemory → IfErr res (IsUnshownFrom s bound line qs)
  spent line qs res given r is = subst (λ z. IfErr z (IsUnshownFrom s bound line qs)) (sym (r ∙ ap Err is)) tt

-- an error that is handed on
pub passed : {X : Type 0} (P : CertifyError → Type 0) (res : Result X CertifyError) (given e : CertifyError) → res ≡ Err given → given ≡ e → P e → IfErr res P
passed P res given e r is h = subst (λ z. IfErr z P) (sym (r ∙ ap Err is)) h
