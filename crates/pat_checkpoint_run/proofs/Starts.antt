-- No certificate for each of some threads.
use Rattle.std.proofs.Common.{◌≡◌, ℕ, ◌+◌, ◌<◌, List, [], ◌∷◌, ◌++◌, length, map, take, get_or, None, sym, ap, ap₂, ◌∙◌}
use Rattle.std.proofs.lemmas.List.{take_more, map-append}
use Rattle.pat_semantics_spec.specs.Configs.{Thread}
use Rattle.pat_reduce.specs.declared.threads.state.ThreadState.{ThreadState}
use Rattle.pat_reduce.specs.Views.{threads_view}
use Rattle.pat_checkpoint_spec.specs.Checkpoints as checkpoints
use Rattle.pat_checkpoint_spec.specs.Resumed.{no_certs}
use Rattle.pat_checkpoint_data.specs.Parts.{PartCerts}
use Rattle.pat_checkpoint_data.specs.Views.{end_view, part_certs_view}

abbrev none_of : List (ℕ × Thread) → List checkpoints.PartCerts
none_of ts = map (λ e. no_certs) ts

pub one_more : (certs more : List PartCerts) (k : PartCerts) (ts : List (ℕ × ThreadState)) (i : ℕ) (d : ℕ × ThreadState) → i < length ts → more ≡ certs ++ (record { control = None; frames = k.frames }) ∷ [] → k.frames ≡ []
    → map part_certs_view certs ≡ map (λ e. no_certs) (threads_view (take i ts)) → map part_certs_view more ≡ map (λ e. no_certs) (threads_view (take (i + 1) ts))
one_more certs more k ts i d within is bare so_far =
    let next : PartCerts = record { control = None; frames = k.frames } in
    let same : part_certs_view next ≡ no_certs = ap (λ l. record { control = None; frames = map end_view l }) bare in
    ap (map part_certs_view) is
    ∙ map-append part_certs_view certs (next ∷ [])
    ∙ ap₂ (λ a b. a ++ b ∷ []) so_far same
    ∙ sym (ap (λ l. none_of (threads_view l)) (take_more ts i d within)
    ∙ ap none_of (map-append _ (take i ts) (get_or ts i d ∷ []))
    ∙ map-append _ (threads_view (take i ts)) (threads_view (get_or ts i d ∷ [])))
