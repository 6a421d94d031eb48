-- The text of a checkpoint is read as it, line by line.
use Rattle.std.proofs.Common.{◌≡◌, ℕ, true, List, [], ◌∷◌, ◌++◌, map, refl, sym, ap, ◌∙◌, subst, append-nil, append_assoc}
use Rattle.std.specs.Prelude.{Some, None, option_map, option_and_then, codes}
use Rattle.std.specs.List.{list_all}
use Rattle.std.specs.Fmt.{decimal}
use Rattle.std.proofs.lemmas.Bool.{and_parts}
use Rattle.std.proofs.lemmas.List.{map-append}
use Rattle.pat_semantics_spec.specs.Programs.{Program}
use Rattle.pat_semantics_spec.specs.Configs.{Message}
use Rattle.pat_texts_spec.proofs.Choices.{passed}
use Rattle.pat_texts_spec.specs.Joined.{cut}
use Rattle.pat_derivation_text_spec.specs.DerivationText.{interface_name}
use Rattle.pat_texts_spec.proofs.CutAgain.{cut_at, behind_at}
use Rattle.pat_derivation_text_laws.proofs.TypesRead.{NamesFit}
use Rattle.pat_checkpoint_spec.specs.text.ValueText.{values_text, env_text}
use Rattle.pat_checkpoint_spec.specs.text.Lines.{MailboxLine, FrameLine, ThreadLine, Lines}
use Rattle.pat_checkpoint_spec.specs.text.CheckpointText.{line, marker, cert_end, next_text, mailbox_text, interface_in, tag_name, message_text, control_text, thread_text, name_text, frame_text, frames_text, mailboxes_text, messages_text, threads_text, lines_text}
use Rattle.pat_checkpoint_spec.specs.text.LineReading.{is_next, add_mailbox, add_message, add_thread, framed, add_frame, with_frame, thread_by, message_by, mailbox_by, with_line}
use Rattle.pat_checkpoint_spec.specs.text.Reading.{ReadsTo, first, another}
use Rattle.pat_checkpoint_laws.specs.text.Readable.{is_mailbox_line, is_message_line, is_frame_line, is_thread_line, ascend, AreReadable}
use Rattle.pat_checkpoint_laws.proofs.LinesRead.{next_read, next_inline, thread_parts, thread_read, thread_inline, frame_read, frame_inline, mailbox_read, mailbox_inline, message_read, message_inline}
use Rattle.pat_checkpoint_laws.proofs.Orders.{ascends_next}

joined_line : (own ls rest : List ℕ) → (line own ++ ls) ++ rest ≡ own ++ 10 ∷ (ls ++ rest)
joined_line own ls rest = append_assoc (line own) ls rest ∙ append_assoc own (10 ∷ []) (ls ++ rest)

-- the number of what comes next is above those before it
above : {A : Type 0} (number : A → ℕ) (before : List A) (b : A) (bs : List A) → ascend (map number (before ++ b ∷ bs)) ≡ true → is_next (map number before) (number b) ≡ true
above number before b bs h = ascends_next (map number before) (number b) (map number bs) (subst (λ ks. ascend ks ≡ true) (map-append number before (b ∷ bs)) h)

-- a frame more on those of the last thread
framed_last : (ts : List ThreadLine) (t : ThreadLine) (f : FrameLine) → framed (ts ++ t ∷ []) f ≡ Some (ts ++ record t { frames = f ∷ t.frames } ∷ [])
framed_last [] t f = refl
framed_last (k ∷ []) t f = refl
framed_last (k ∷ l ∷ ls) t f = ap (option_map (λ ts. k ∷ ts)) (framed_last (l ∷ ls) t f)

module _ (p : Program) (n : NamesFit p) (x : Lines) where
  -- so many mailboxes, and nothing behind them; then so many messages, and so many threads
  abbrev at_mailboxes : List MailboxLine → Lines
  at_mailboxes ms = record x { mailboxes = ms; messages = []; threads = [] }

  abbrev at_messages : List Message → Lines
  at_messages es = record x { messages = es; threads = [] }

  abbrev at_threads : List ThreadLine → Lines
  at_threads ts = record x { threads = ts }

  reads_mailboxes : (text : List ℕ) (ms ws : List MailboxLine) (rest : List ℕ) → list_all (is_mailbox_line p) ws ≡ true → ascend (map (λ m. m.number) (ms ++ ws)) ≡ true → ReadsTo p text (at_mailboxes ms) (mailboxes_text p ws ++ rest) → ReadsTo p text (at_mailboxes (ms ++ ws)) rest
  reads_mailboxes text ms [] rest g a r = subst (λ l. ReadsTo p text (at_mailboxes l) rest) (sym (append-nil ms)) r
  reads_mailboxes text ms (w ∷ ws) rest g a r =
      let k = and_parts (is_mailbox_line p w) (list_all (is_mailbox_line p) ws) g in
      let own = mailbox_text p w in
      let body = decimal w.number ++ 32 ∷ (interface_name p w.interface ++ cert_end w.cert) in
      let more = mailboxes_text p ws ++ rest in
      let s = at_mailboxes ms in
      let here = subst (ReadsTo p text s) (joined_line own (mailboxes_text p ws) rest) r in
      let read : with_line p s own ≡ Some (at_mailboxes (ms ++ w ∷ [])) =
      ap (mailbox_by p s own) (behind_at (codes "mailbox ") body)
      ∙ ap (option_and_then (add_mailbox s)) (mailbox_read p n w k.0)
      ∙ passed (is_next (map (λ m. m.number) ms) w.number) (Some (at_mailboxes (ms ++ w ∷ []))) None (above (λ m. m.number) ms w ws a) in
      let next : ReadsTo p text (at_mailboxes (ms ++ w ∷ [])) more = another here (cut_at 10 own more (mailbox_inline p n w k.0)) read in
      let assoc = append_assoc ms (w ∷ []) ws in
      subst (λ l. ReadsTo p text (at_mailboxes l) rest) assoc (reads_mailboxes text (ms ++ w ∷ []) ws rest k.1 (subst (λ l. ascend (map (λ m. m.number) l) ≡ true) (sym assoc) a) next)

  reads_messages : (text : List ℕ) (es ws : List Message) (rest : List ℕ) → list_all (is_message_line p x.mailboxes) ws ≡ true → ascend (map (λ m. m.number) (es ++ ws)) ≡ true → ReadsTo p text (at_messages es) (messages_text p x.mailboxes ws ++ rest) → ReadsTo p text (at_messages (es ++ ws)) rest
  reads_messages text es [] rest g a r = subst (λ l. ReadsTo p text (at_messages l) rest) (sym (append-nil es)) r
  reads_messages text es (w ∷ ws) rest g a r =
      let ms = x.mailboxes in
      let k = and_parts (is_message_line p ms w) (list_all (is_message_line p ms) ws) g in
      let own = message_text p ms w in
      let body = decimal w.number ++ 32 ∷ (decimal w.mailbox ++ 32 ∷ (tag_name p (interface_in ms w.mailbox) w.tag ++ 40 ∷ (values_text w.values ++ 41 ∷ []))) in
      let more = messages_text p ms ws ++ rest in
      let s = at_messages es in
      let here = subst (ReadsTo p text s) (joined_line own (messages_text p ms ws) rest) r in
      let read : with_line p s own ≡ Some (at_messages (es ++ w ∷ [])) =
      ap (message_by p s own) (behind_at (codes "message ") body)
      ∙ ap (option_and_then (add_message s)) (message_read p n ms w k.0)
      ∙ passed (is_next (map (λ m. m.number) es) w.number) (Some (at_messages (es ++ w ∷ []))) None (above (λ m. m.number) es w ws a) in
      let next : ReadsTo p text (at_messages (es ++ w ∷ [])) more = another here (cut_at 10 own more (message_inline p n ms w k.0)) read in
      let assoc = append_assoc es (w ∷ []) ws in
      subst (λ l. ReadsTo p text (at_messages l) rest) assoc (reads_messages text (es ++ w ∷ []) ws rest k.1 (subst (λ l. ascend (map (λ m. m.number) l) ≡ true) (sym assoc) a) next)

  reads_frames : (text : List ℕ) (ts : List ThreadLine) (t : ThreadLine) (fs : List FrameLine) (rest : List ℕ) → list_all (is_frame_line p) fs ≡ true → ReadsTo p text (at_threads (ts ++ record t { frames = [] } ∷ [])) (frames_text fs ++ rest) → ReadsTo p text (at_threads (ts ++ record t { frames = fs } ∷ [])) rest
  reads_frames text ts t [] rest g r = r
  reads_frames text ts t (f ∷ fs) rest g r =
      let k = and_parts (is_frame_line p f) (list_all (is_frame_line p) fs) g in
      let own = frame_text f in
      let body = name_text f.frame.var ++ 32 ∷ (decimal f.frame.body ++ 32 ∷ 123 ∷ (env_text f.frame.env ++ 125 ∷ cert_end f.cert)) in
      let below = reads_frames text ts t fs (line own ++ rest) k.1 (subst (ReadsTo p text (at_threads (ts ++ record t { frames = [] } ∷ []))) (append_assoc (frames_text fs) (line own) rest) r) in
      let s = at_threads (ts ++ record t { frames = fs } ∷ []) in
      let read : with_line p s own ≡ Some (at_threads (ts ++ record t { frames = f ∷ fs } ∷ [])) =
      ap (option_and_then (with_frame p s)) (behind_at (codes "frame ") body)
      ∙ ap (option_and_then (add_frame s)) (frame_read p f k.0)
      ∙ ap (option_map (λ l. record s { threads = l })) (framed_last ts (record t { frames = fs }) f) in
      another below (ap (cut 10) (append_assoc own (10 ∷ []) rest) ∙ cut_at 10 own rest (frame_inline p f k.0)) read

  reads_threads : (text : List ℕ) (ts ws : List ThreadLine) (rest : List ℕ) → list_all (is_thread_line p) ws ≡ true → ascend (map (λ t. t.number) (ts ++ ws)) ≡ true → ReadsTo p text (at_threads ts) (threads_text ws ++ rest) → ReadsTo p text (at_threads (ts ++ ws)) rest
  reads_threads text ts [] rest g a r = subst (λ l. ReadsTo p text (at_threads l) rest) (sym (append-nil ts)) r
  reads_threads text ts (w ∷ ws) rest g a r =
      let k = and_parts (is_thread_line p w) (list_all (is_thread_line p) ws) g in
      let t = thread_parts p w k.0 in
      let own = thread_text w in
      let body = decimal w.number ++ 32 ∷ (control_text w.control ++ cert_end w.cert) in
      let F = frames_text w.frames in
      let W = threads_text ws in
      let s = at_threads ts in
      let new : ThreadLine = record w { frames = [] } in
      let here = subst (ReadsTo p text s) (append_assoc (line own ++ F) W rest ∙ append_assoc (line own) F (W ++ rest) ∙ append_assoc own (10 ∷ []) (F ++ (W ++ rest))) r in
      let read : with_line p s own ≡ Some (at_threads (ts ++ new ∷ [])) =
      ap (thread_by p s own) (behind_at (codes "thread ") body)
      ∙ ap (option_and_then (add_thread s)) (thread_read p w t)
      ∙ passed (is_next (map (λ t. t.number) ts) w.number) (Some (at_threads (ts ++ new ∷ []))) None (above (λ t. t.number) ts w ws a) in
      let begun : ReadsTo p text (at_threads (ts ++ new ∷ [])) (F ++ (W ++ rest)) = another here (cut_at 10 own (F ++ (W ++ rest)) (thread_inline p w t)) read in
      let next : ReadsTo p text (at_threads (ts ++ w ∷ [])) (W ++ rest) = reads_frames text ts w w.frames (W ++ rest) t.frames begun in
      let assoc = append_assoc ts (w ∷ []) ws in
      subst (λ l. ReadsTo p text (at_threads l) rest) assoc (reads_threads text (ts ++ w ∷ []) ws rest k.1 (subst (λ l. ascend (map (λ t. t.number) l) ≡ true) (sym assoc) a) next)

  -- a text that begins with these lines' is read so far as they are
  pub text_reads : AreReadable p x → (rest : List ℕ) → ReadsTo p (lines_text p x ++ rest) x rest
  text_reads g rest =
      let W = next_text x in
      let B = mailboxes_text p x.mailboxes in
      let E = messages_text p x.mailboxes x.messages in
      let T = threads_text x.threads in
      let text = lines_text p x ++ rest in
      let body = W ++ 10 ∷ (B ++ (E ++ (T ++ rest))) in
      let ends : (B ++ (E ++ T)) ++ rest ≡ B ++ (E ++ (T ++ rest)) = append_assoc B (E ++ T) rest ∙ ap (λ l. B ++ l) (append_assoc E T rest) in
      let whole : text ≡ marker ++ 10 ∷ body =
      joined_line marker (line W ++ (B ++ (E ++ T))) rest ∙ ap (λ l. marker ++ 10 ∷ l) (joined_line W (B ++ (E ++ T)) rest ∙ ap (λ l. W ++ 10 ∷ l) ends) in
      let begins : ReadsTo p text (at_mailboxes []) (B ++ (E ++ (T ++ rest))) =
      first (ap (cut 10) whole ∙ cut_at 10 marker body refl) (cut_at 10 W (B ++ (E ++ (T ++ rest))) (next_inline x g.next_thread g.next_mailbox g.next_message)) (next_read x g.next_thread g.next_mailbox g.next_message) in
      reads_threads text [] x.threads rest g.threads g.threads_ascend (reads_messages text [] x.messages (T ++ rest) g.messages g.messages_ascend (reads_mailboxes text [] x.mailboxes (E ++ (T ++ rest)) g.mailboxes g.mailboxes_ascend begins))
