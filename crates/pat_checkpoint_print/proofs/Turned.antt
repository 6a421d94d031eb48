-- Frames from the bottom up are those from the next one down, turned round.
use Rattle.std.proofs.Common.{◌≡◌, ℕ, true, List, [], ◌∷◌, ◌++◌, length, map, drop, ◌+◌, Option, refl, sym, ap, ap₂, ◌∙◌, reverse, arith}
use Rattle.std.specs.Prelude.{◌&&◌, Bool}
use Rattle.std.specs.List.{flat_map, list_all}
use Rattle.std.proofs.lemmas.Grind.{flat_map-append, reverse_onto}
use Rattle.std.proofs.lemmas.Bool.{and_parts, and_from}
use Rattle.std.proofs.lemmas.List.{map-append, length-reverse, length-map, reverse-reverse, append-nil}
use Rattle.std.proofs.lemmas.List.Folds.{list_all-append}
use Rattle.pat_reduce.specs.declared.threads.state.Frame.{Frame as CodeFrame}
use Rattle.pat_reduce.specs.threads.ThreadViews.{frame_view}
use Rattle.pat_derivations.specs.declared.data.Cert.{Cert as CodeCert}
use Rattle.pat_checkpoint_data.specs.Views.{end_view}
use Rattle.pat_semantics_spec.specs.Configs.{Frame}
use Rattle.pat_inclusion_spec.specs.Certificates.{Cert}
use Rattle.pat_checkpoint_spec.specs.text.Lines.{FrameLine, frame_lines}
use Rattle.pat_checkpoint_spec.specs.text.CheckpointText.{line, frame_text, frames_text}
use Rattle.pat_checkpoint_print.specs.Upwards.{frames_upwards}

abbrev of_line : FrameLine → List ℕ
of_line f = line (frame_text f)

-- one more at the end of both lists is one more line
lines_end : (fs : List Frame) (cs : List (Option Cert)) (f : Frame) (c : Option Cert) → length cs ≡ length fs → frame_lines (fs ++ f ∷ []) (cs ++ c ∷ []) ≡ frame_lines fs cs ++ record { frame = f; cert = c } ∷ []
lines_end [] [] f c same = refl
lines_end [] (k ∷ ks) f c same = absurd (omega (arith, same))
lines_end (g ∷ gs) [] f c same = absurd (omega (arith, same))
lines_end (g ∷ gs) (k ∷ ks) f c same = ap (λ l. record { frame = g; cert = k } ∷ l) (lines_end gs ks f c (omega (arith, same)))

upwards : (fs : List Frame) (cs : List (Option Cert)) → length cs ≡ length fs → frames_upwards (reverse fs) (reverse cs) ≡ frames_text (frame_lines fs cs)
upwards [] [] same = refl
upwards [] (k ∷ ks) same = absurd (omega (arith, same))
upwards (g ∷ gs) [] same = absurd (omega (arith, same))
upwards (g ∷ gs) (k ∷ ks) same =
    let less : length ks ≡ length gs = omega (arith, same) in
    ap₂ (λ fs cs. frames_upwards fs cs) (reverse_onto gs g []) (reverse_onto ks k [])
    ∙ ap (flat_map of_line) (lines_end (reverse gs) (reverse ks) g k (length-reverse ks ∙ less ∙ sym (length-reverse gs)))
    ∙ flat_map-append of_line (frame_lines (reverse gs) (reverse ks)) (record { frame = g; cert = k } ∷ [])
    ∙ ap₂ (λ a b. a ++ b) (upwards gs ks less) (append-nil (of_line (record { frame = g; cert = k })))

map_turned : {A B : Type 0} (f : A → B) (xs : List A) → map f (reverse xs) ≡ reverse (map f xs)
map_turned f [] = refl
map_turned f (x ∷ xs) =
    ap (map f) (reverse_onto xs x [])
    ∙ map-append f (reverse xs) (x ∷ [])
    ∙ ap (λ l. l ++ f x ∷ []) (map_turned f xs)
    ∙ sym (reverse_onto (map f xs) (f x) [])

-- the text of a slice of frames is that of the frames from the next one down
pub frames_turned : (frames own : List CodeFrame) (certs ends : List (Option CodeCert)) → reverse frames ≡ own → reverse certs ≡ ends → length ends ≡ length own → frames_upwards (map frame_view frames) (map end_view certs) ≡ frames_text (frame_lines (map frame_view own) (map end_view ends))
frames_turned frames own certs ends is are same =
    ap₂ (λ fs cs. frames_upwards fs cs)
    (ap (map frame_view) (sym (reverse-reverse frames) ∙ ap reverse is) ∙ map_turned frame_view own)
    (ap (map end_view) (sym (reverse-reverse certs) ∙ ap reverse are) ∙ map_turned end_view ends)
    ∙ upwards (map frame_view own) (map end_view ends) (length-map ends end_view ∙ same ∙ sym (length-map own frame_view))

all_turned : {A : Type 0} (f : A → Bool) (xs : List A) → list_all f xs ≡ true → list_all f (reverse xs) ≡ true
all_turned f [] h = refl
all_turned f (x ∷ xs) h =
    let q = and_parts (f x) (list_all f xs) h in
    ap (list_all f) (reverse_onto xs x [])
    ∙ list_all-append f (reverse xs) (x ∷ [])
    ∙ and_from (list_all f (reverse xs)) (f x && true) (all_turned f xs q.1) (and_from (f x) true q.0 refl)

-- what holds of all of a slice holds of all of those the other way round
pub all_of : {A B : Type 0} (f : B → Bool) (v : A → B) (xs own : List A) → reverse xs ≡ own → list_all f (map v xs) ≡ true → list_all f (map v own) ≡ true
all_of f v xs own is h = ap (λ l. list_all f (map v l)) (sym is) ∙ ap (list_all f) (map_turned v xs) ∙ all_turned f (map v xs) h

-- the lines of frames from a place on
module _ (fs : List CodeFrame) (ks : List (Option CodeCert)) (i : ℕ) (f : CodeFrame) (k : Option CodeCert) (frame : drop i fs ≡ f ∷ drop (i + 1) fs) (cert : drop i ks ≡ k ∷ drop (i + 1) ks) where
  pub next_line : frames_upwards (map frame_view (drop i fs)) (map end_view (drop i ks)) ≡ of_line (record { frame = frame_view f; cert = end_view k }) ++ frames_upwards (map frame_view (drop (i + 1) fs)) (map end_view (drop (i + 1) ks))
  next_line = ap₂ (λ a b. frames_upwards (map frame_view a) (map end_view b)) frame cert

-- what holds of an item and is left to be seen of those behind it
pub next_of : {A B : Type 0} (f : B → Bool) (v : A → B) (xs : List A) (i : ℕ) (x : A) → drop i xs ≡ x ∷ drop (i + 1) xs → f (v x) ≡ true → list_all f (map v (drop (i + 1) xs)) ≡ list_all f (map v (drop i xs))
next_of f v xs i x row holds = sym (ap (λ l. list_all f (map v l)) row ∙ ap (λ b. b && list_all f (map v (drop (i + 1) xs))) holds)
