-- The laws, for checkpoints in place of their lines.
use Rattle.std.proofs.Common.{◌≡◌, ℕ, ◌≤◌, ◌⊎◌, inl, inr, List, [], ◌++◌, length, refl, sym, ap, ◌∙◌, subst, append-nil}
use Rattle.pat_semantics_spec.specs.Programs.{Program}
use Rattle.pat_resolver_spec.specs.Places.{Places}
use Rattle.pat_resolver_spec.specs.Resolved.{IsResolved}
use Rattle.pat_derivation_text_laws.proofs.Naming.{names_fit}
use Rattle.pat_checkpoint_spec.specs.Checkpoints.{Checkpoint}
use Rattle.pat_checkpoint_spec.specs.text.Lines.{checkpoint_of, lines_of}
use Rattle.pat_checkpoint_spec.specs.text.CheckpointText.{lines_text, checkpoint_text}
use Rattle.pat_checkpoint_spec.specs.text.Reading.{ReadsTo, ReadsAs, Unread}
use Rattle.pat_checkpoint_laws.specs.text.Readable.{AreReadable, IsReadable}
use Rattle.pat_checkpoint_laws.proofs.Conversions.{lines_again, made_is_aligned, checkpoint_again}
use Rattle.pat_checkpoint_laws.proofs.TextSpelled.{reads_text}
use Rattle.pat_checkpoint_laws.proofs.TextRead.{text_reads}
use Rattle.pat_checkpoint_laws.proofs.Ways.{Either, reads_one, read_or_unread, unread_is_not_read, reads_before}

-- the lines that were read are those of the checkpoint
lines_read : (p : Program) (text : List ℕ) (x : Checkpoint) (r : ReadsAs p text x) → lines_of x ≡ r.lines
lines_read p text x r = ap lines_of (sym r.is) ∙ lines_again r.lines

pub read_is_text : (p : Program) (text : List ℕ) (x : Checkpoint) → ReadsAs p text x → text ≡ checkpoint_text p x
read_is_text p text x r = (reads_text p text r.lines [] r.read).0 ∙ append-nil (lines_text p r.lines) ∙ ap (lines_text p) (sym (lines_read p text x r))

pub read_is_readable : (p : Program) (text : List ℕ) (x : Checkpoint) → ReadsAs p text x → IsReadable p x
read_is_readable p text x r =
    subst (IsReadable p) r.is (record {
      aligned = made_is_aligned r.lines;
      lines = subst (AreReadable p) (sym (lines_again r.lines)) (reads_text p text r.lines [] r.read).1;
    })

pub reading_is_one : (p : Program) (text : List ℕ) (x y : Checkpoint) → ReadsAs p text x → ReadsAs p text y → x ≡ y
reading_is_one p text x y a b = sym a.is ∙ ap checkpoint_of (reads_one p text a.lines b.lines a.read b.read) ∙ b.is

pub is_read_or_unread : (p : Program) (text : List ℕ) → ((x : Checkpoint) × ReadsAs p text x) ⊎ ((offset : ℕ) × Unread p text offset)
is_read_or_unread p text = by (read_or_unread p text)
  where
    by : Either p text → ((x : Checkpoint) × ReadsAs p text x) ⊎ ((offset : ℕ) × Unread p text offset)
    by (inl (x, r)) = inl (checkpoint_of x, record { lines = x; read = r; is = refl })
    by (inr u) = inr u

pub unread_is_not_a_checkpoint : (p : Program) (text : List ℕ) (offset : ℕ) (x : Checkpoint) → Unread p text offset → ReadsAs p text x → ⊥
unread_is_not_a_checkpoint p text offset x u r = unread_is_not_read p text offset r.lines u r.read

module _ (p : Program) (q : Places) (r : IsResolved p q) where
  front_read : (x : Checkpoint) → IsReadable p x → (rest : List ℕ) → ReadsTo p (checkpoint_text p x ++ rest) (lines_of x) rest
  front_read x g rest = text_reads p (names_fit p r.well_formed r.named) (lines_of x) g.lines rest

  pub text_is_read : (x : Checkpoint) → IsReadable p x → ReadsAs p (checkpoint_text p x) x
  text_is_read x g = record {
    lines = lines_of x;
    read = subst (λ t. ReadsTo p t (lines_of x) []) (append-nil (checkpoint_text p x)) (front_read x g []);
    is = checkpoint_again x g.aligned;
  }

  pub text_is_one : (x y : Checkpoint) → IsReadable p x → IsReadable p y → checkpoint_text p x ≡ checkpoint_text p y → x ≡ y
  text_is_one x y g h same = reading_is_one p (checkpoint_text p y) x y (subst (λ t. ReadsAs p t x) same (text_is_read x g)) (text_is_read y h)

  pub unread_is_first : (text : List ℕ) (offset : ℕ) → Unread p text offset → (x : Checkpoint) (rest : List ℕ) → IsReadable p x → text ≡ checkpoint_text p x ++ rest → length (checkpoint_text p x) ≤ offset
  unread_is_first text offset u x rest g same = reads_before p text offset u (lines_of x) rest (subst (λ t. ReadsTo p t (lines_of x) rest) (sym same) (front_read x g rest))
