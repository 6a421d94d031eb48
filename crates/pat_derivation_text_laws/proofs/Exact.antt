-- For a resolved program the text of each derivation that a reader takes is read as it.
use Rattle.std.proofs.Common.{◌≡◌, ℕ, ◌≤◌, true, List, [], ◌++◌, length, sym, subst, append-nil}
use Rattle.pat_semantics_spec.specs.Programs.{Program}
use Rattle.pat_resolver_spec.specs.Places.{Places}
use Rattle.pat_resolver_spec.specs.Resolved.{IsResolved}
use Rattle.pat_derivation_spec.specs.Derivations.{Derivation}
use Rattle.pat_derivation_text_laws.specs.patterns.Laws.{PatternIsRead}
use Rattle.pat_derivation_text_spec.specs.DerivationText.{derivation_text}
use Rattle.pat_derivation_text_spec.specs.Reading.{ReadsTo, ReadsAs, Unread}
use Rattle.pat_derivation_text_laws.specs.Readable.{can_be_read}
use Rattle.pat_derivation_text_laws.proofs.LinesRead.{text_reads}
use Rattle.pat_derivation_text_laws.proofs.Naming.{have_tags, names_fit}
use Rattle.pat_derivation_text_laws.proofs.Sound.{reads_readable}
use Rattle.pat_derivation_text_laws.proofs.Ways.{reads_one, reads_before}

module _ (pattern_read : PatternIsRead) (p : Program) (q : Places) (r : IsResolved p q) where
  front_read : (d : Derivation) → can_be_read p d ≡ true → (rest : List ℕ) → ReadsTo p (derivation_text p d ++ rest) d rest
  front_read = text_reads pattern_read p (names_fit p r.well_formed r.named)

  pub text_is_read : (d : Derivation) → can_be_read p d ≡ true → ReadsAs p (derivation_text p d) d
  text_is_read d h = subst (λ t. ReadsTo p t d []) (append-nil (derivation_text p d)) (front_read d h [])

  pub text_is_one : (d e : Derivation) → can_be_read p d ≡ true → can_be_read p e ≡ true → derivation_text p d ≡ derivation_text p e → d ≡ e
  text_is_one d e h k same = reads_one p (derivation_text p e) d e (subst (λ t. ReadsAs p t d) same (text_is_read d h)) (text_is_read e k)

  pub unread_is_first : (text : List ℕ) (offset : ℕ) → Unread p text offset → (d : Derivation) (rest : List ℕ) → can_be_read p d ≡ true → text ≡ derivation_text p d ++ rest → length (derivation_text p d) ≤ offset
  unread_is_first text offset u d rest h same = reads_before p text offset u d rest (subst (λ t. ReadsTo p t d rest) (sym same) (front_read d h rest))

-- what is read of a text, up to any line, is a derivation that a reader takes
pub read_is_readable : (p : Program) (q : Places) → IsResolved p q → (text : List ℕ) (d : Derivation) (rest : List ℕ) → ReadsTo p text d rest → can_be_read p d ≡ true
read_is_readable p q r = reads_readable p (have_tags p p.interfaces r.well_formed.interfaces)
