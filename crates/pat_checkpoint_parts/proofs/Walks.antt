-- Frames from the last one up: one more of them, and a test of each.
use Rattle.std.proofs.Common.{◌≡◌, ℕ, ◌+◌, ◌<◌, Bool, false, ◌&&◌, List, ◌∷◌, length, take, get_or, map, reverse, Option, None, sym, ap, ◌∙◌}
use Rattle.std.proofs.lemmas.Option.{slice_get-get_or, get_or_from_slice_get}
use Rattle.pat_semantics_spec.specs.Programs.{Program, option_list}
use Rattle.pat_semantics_spec.specs.Configs.{Frame}
use Rattle.pat_inclusion_spec.specs.Values.{Scope}
use Rattle.pat_type_system_spec.specs.Typings.{Typing}
use Rattle.pat_type_system_spec.specs.Holdings.{wanted}
use Rattle.pat_derivations.specs.declared.data.Cert.{Cert}
use Rattle.pat_reduce.specs.declared.threads.state.Frame.{Frame as CodeFrame}
use Rattle.pat_reduce.specs.threads.ThreadViews.{frame_view}
use Rattle.pat_checkpoint_spec.specs.Kinds.{is_frame_of_let, part_fits, types_agree, frames_fit, type_needs, is_certified, frames_shown}
use Rattle.pat_checkpoint_data.specs.Views.{end_view}
use Rattle.pat_checkpoint_numbers.proofs.Reversed.{one_more}
use Rattle.pat_checkpoint_parts.specs.Shown.{frame_fits}
use Rattle.pat_checkpoint_parts.proofs.Chosen.{behind_three, behind_one}

module _ (p : Program) (y : Typing) (frames : List CodeFrame) (k : ℕ) (f : CodeFrame) (less : k < length frames) (at : f ≡ get_or frames k f) where
  abbrev pub below : List Frame
  below = map frame_view (reverse (take k frames))

  pub fit_more : (interfaces : ℕ → ℕ) (fit new : Bool) → fit ≡ frames_fit p y interfaces below → new ≡ (fit && frame_fits p y interfaces (frame_view f) below) → new ≡ frames_fit p y interfaces (map frame_view (reverse (take (k + 1) frames)))
  fit_more interfaces fit new h is =
      is
      ∙ ap (λ r. r && frame_fits p y interfaces (frame_view f) below) h
      ∙ behind_three (is_frame_of_let p (frame_view f)) (part_fits p interfaces f.body (option_list f.var) (frame_view f).env) (types_agree (y.results f.body) (wanted p y below)) (frames_fit p y interfaces below)
      ∙ sym (ap (λ l. frames_fit p y interfaces (map frame_view l)) (one_more frames k f less at))

  pub shown_more : (s : Scope) (certs : List (Option Cert)) (cert : Option Cert) → k < length certs → cert ≡ get_or certs k cert → (shown new : Bool) → shown ≡ frames_shown p y s below (map end_view (reverse (take k certs)))
      → new ≡ (shown && is_certified s (type_needs (y.results f.body) (wanted p y below)) (end_view cert))
      → new ≡ frames_shown p y s (map frame_view (reverse (take (k + 1) frames))) (map end_view (reverse (take (k + 1) certs)))
  shown_more s certs cert also stands shown new h is =
      let here = is_certified s (type_needs (y.results f.body) (wanted p y below)) (end_view cert) in
      is
      ∙ ap (λ r. r && here) h
      ∙ behind_one here (frames_shown p y s below (map end_view (reverse (take k certs))))
      ∙ sym (ap (λ l. frames_shown p y s (map frame_view l) (map end_view (reverse (take (k + 1) certs)))) (one_more frames k f less at)
      ∙ ap (λ l. frames_shown p y s (frame_view f ∷ below) (map end_view l)) (one_more certs k cert also stands))

  -- once one isn't shown, nothing more is looked at
  pub none_shown : (s : Scope) (certs : List (Option Cert)) → k < length certs → (shown new : Bool) → shown ≡ frames_shown p y s below (map end_view (reverse (take k certs)))
      → shown ≡ false → new ≡ false
      → new ≡ frames_shown p y s (map frame_view (reverse (take (k + 1) frames))) (map end_view (reverse (take (k + 1) certs)))
  none_shown s certs also shown new h out is =
      let cert = get_or certs k None in
      shown_more s certs cert also (sym (get_or_from_slice_get certs k cert cert (slice_get-get_or certs k None also))) shown new h
      (is ∙ sym (ap (λ b. b && is_certified s (type_needs (y.results f.body) (wanted p y below)) (end_view cert)) out))
