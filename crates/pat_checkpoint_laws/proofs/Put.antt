-- Holdings with values put in.
use Rattle.std.proofs.Common.{◌≡◌, ℕ, suc, true, false, if◌then◌else◌, List, [], ◌∷◌, ◌++◌, map, Option, Some, None, refl, sym, ap, ap₂, ◌∙◌}
use Rattle.pat_semantics_spec.specs.Values.{Value, Env}
use Rattle.pat_semantics_spec.specs.Programs.{Program, Polarity, Sending, Receiving, TagDecl, tag_at}
use Rattle.pat_semantics_spec.specs.WellFormed.{WellFormed}
use Rattle.pat_semantics_spec.specs.Patterns.{Pat}
use Rattle.pat_semantics_spec.specs.Configs.{Control, Running, Returned, Frame, Thread, Message, Config, is_mailbox}
use Rattle.pat_semantics_laws.proofs.Lists.{map-append}
use Rattle.pat_inclusion_spec.specs.Values.{Scope, filled, pattern_of}
use Rattle.pat_type_system_spec.specs.Types.{TypeOf, BaseTerm, MailboxTerm, TypeEnv}
use Rattle.pat_type_system_spec.specs.Typings.{Typing, payload_type}
use Rattle.pat_type_system_spec.specs.Holdings.{Holding, held, as_holding, wanted, control_held, frame_held, thread_held, threads_held, payload_held, declared_types, message_held, holdings, receives_by, receives, receivers}
use Rattle.pat_type_schemes_spec.specs.NodeTypes.{result_under}
use Rattle.pat_derivation_spec.specs.Derivations.{Derivation, scope_of, written_typing, typing_of}
use Rattle.pat_derivation_laws.proofs.DemandsMet.{put_in}
use Rattle.pat_derivation_laws.proofs.Names.{put_all}
use Rattle.pat_derivation_laws.proofs.Signatures.{put_payload_types}
use Rattle.pat_checkpoint_laws.proofs.TypeTests.{wanted_filled}

-- what an environment holds
pub held_put : (s : Scope) (g : TypeEnv) (b : ℕ) (env : Env) → held (put_all s g) b env ≡ put_in s (held g b env)
held_put s g b [] = refl
held_put s g b (e ∷ env) =
    elim (is_mailbox b e.1) as (λ t. (if t then put_in s (g e.0) else held (put_all s g) b env) ≡ put_in s (if t then g e.0 else held g b env)) [
      | true ↦ refl
      | false ↦ held_put s g b env
    ]

-- what is returned
pub term_put : (s : Scope) (t : TypeOf) → as_holding (result_under (pattern_of s) t) ≡ put_in s (as_holding t)
term_put s (BaseTerm b) = refl
term_put s (MailboxTerm i q e) = refl

payload_put : (s : Scope) (types : TypeEnv) (b k : ℕ) (vs : List Value) → payload_held b (put_all s types) k vs ≡ put_in s (payload_held b types k vs)
payload_put s types b k [] = refl
payload_put s types b k (v ∷ vs) =
    elim (is_mailbox b v) as (λ t. (if t then put_in s (types k) else payload_held b (put_all s types) (suc k) vs) ≡ put_in s (if t then types k else payload_held b types (suc k) vs)) [
      | true ↦ refl
      | false ↦ payload_put s types b (suc k) vs
    ]

module _ (p : Program) (d : Derivation) where
  abbrev s : Scope
  s = scope_of p d

  abbrev y : Typing
  y = typing_of p d

  abbrev w : Typing
  w = written_typing p d

  pub control_put : (b : ℕ) (k : Control) (fs : List Frame) → control_held p y b k fs ≡ put_in s (control_held p w b k fs)
  control_put b (Running n env) fs = held_put s (w.envs n) b env
  control_put b (Returned v) fs =
      elim (is_mailbox b v) as (λ t. (if t then as_holding (wanted p y fs) else None) ≡ put_in s (if t then as_holding (wanted p w fs) else None)) [
        | true ↦ ap as_holding (wanted_filled p d fs) ∙ term_put s (wanted p w fs)
        | false ↦ refl
      ]

  pub frame_put : (b : ℕ) (f : Frame) → frame_held y b f ≡ put_in s (frame_held w b f)
  frame_put b f = held_put s (w.envs f.body) b f.env

  frames_put : (b : ℕ) (fs : List Frame) → map (frame_held y b) fs ≡ map (put_in s) (map (frame_held w b) fs)
  frames_put b [] = refl
  frames_put b (f ∷ fs) = ap₂ (λ h hs. h ∷ hs) (frame_put b f) (frames_put b fs)

  thread_put : (b : ℕ) (t : Thread) → thread_held p y b t ≡ map (put_in s) (thread_held p w b t)
  thread_put b t = ap₂ (λ h hs. h ∷ hs) (control_put b t.control t.frames) (frames_put b t.frames)

  threads_put : (b : ℕ) (ts : List (ℕ × Thread)) → threads_held p y b ts ≡ map (put_in s) (threads_held p w b ts)
  threads_put b [] = refl
  threads_put b (e ∷ es) =
      ap₂ (λ hs ks. hs ++ ks) (thread_put b e.1) (threads_put b es)
      ∙ sym (map-append (put_in s) (thread_held p w b e.1) (threads_held p w b es))

  -- a payload's type has no variables
  message_put : (wf : WellFormed p) (interfaces : ℕ → ℕ) (b : ℕ) (m : Message) → message_held p interfaces b m ≡ put_in s (message_held p interfaces b m)
  message_put wf interfaces b m = go (tag_at p (interfaces m.mailbox) m.tag) refl
    where
      go : (o : Option TagDecl) → tag_at p (interfaces m.mailbox) m.tag ≡ o → payload_held b (declared_types o) 0 m.values ≡ put_in s (payload_held b (declared_types o) 0 m.values)
      go None is = payload_put s (declared_types None) b 0 m.values
      go (Some decl) is =
          ap (λ (types : TypeEnv). payload_held b types 0 m.values) (sym (put_payload_types p s (interfaces m.mailbox) m.tag decl wf is))
          ∙ payload_put s (payload_type decl) b 0 m.values

  messages_put : (wf : WellFormed p) (interfaces : ℕ → ℕ) (b : ℕ) (ms : List Message) → map (message_held p interfaces b) ms ≡ map (put_in s) (map (message_held p interfaces b) ms)
  messages_put wf interfaces b [] = refl
  messages_put wf interfaces b (m ∷ ms) = ap₂ (λ h hs. h ∷ hs) (message_put wf interfaces b m) (messages_put wf interfaces b ms)

  -- all holdings of a mailbox are those that are written, with values put in
  pub holdings_put : (wf : WellFormed p) (interfaces : ℕ → ℕ) (c : Config) (b : ℕ) → holdings p y interfaces c b ≡ map (put_in s) (holdings p w interfaces c b)
  holdings_put wf interfaces c b =
      ap₂ (λ hs ks. hs ++ ks) (threads_put b c.threads) (messages_put wf interfaces b c.messages)
      ∙ sym (map-append (put_in s) (threads_held p w b c.threads) (map (message_held p interfaces b) c.messages))

-- ---- receivers

receives_by_put : (s : Scope) (q : Polarity) (e : Pat) → receives_by q (filled s e) ≡ map (filled s) (receives_by q e)
receives_by_put s Sending e = refl
receives_by_put s Receiving e = refl

receives_put : (s : Scope) (h : Holding) → receives (put_in s h) ≡ map (filled s) (receives h)
receives_put s None = refl
receives_put s (Some a) = receives_by_put s a.polarity a.pattern

pub receivers_put : (s : Scope) (hs : List Holding) → receivers (map (put_in s) hs) ≡ map (filled s) (receivers hs)
receivers_put s [] = refl
receivers_put s (h ∷ hs) =
    ap₂ (λ x z. x ++ z) (receives_put s h) (receivers_put s hs) ∙ sym (map-append (filled s) (receives h) (receivers hs))
