-- What is read of a text, up to any line, stands there, and is what a reader takes.
use Rattle.std.proofs.Common.{◌≡◌, ℕ, true, List, [], ◌∷◌, ◌++◌, map, refl, sym, ap, ◌∙◌, subst, append-nil, append_assoc}
use Rattle.std.specs.Prelude.{Option, Some, None, option_and_then, ◌&&◌, codes}
use Rattle.std.specs.List.{list_all}
use Rattle.std.proofs.lemmas.Bool.{and_parts, and_from}
use Rattle.std.proofs.lemmas.List.{map-append}
use Rattle.std.proofs.lemmas.Grind.{flat_map-append}
use Rattle.pat_semantics_spec.specs.Programs.{Program}
use Rattle.pat_semantics_spec.specs.Configs.{Message}
use Rattle.pat_texts_spec.specs.Numbers.{is_number}
use Rattle.pat_texts_spec.specs.Fronts.{behind}
use Rattle.pat_texts_spec.proofs.Choices.{taken, made, made_next}
use Rattle.pat_derivation_text_laws.proofs.Spelled.{behind_is}
use Rattle.pat_texts_spec.specs.Joined.{cut}
use Rattle.pat_derivation_text_laws.proofs.LinesSpelled.{cut_is}
use Rattle.pat_derivation_text_laws.proofs.Sound.{all_last}
use Rattle.pat_checkpoint_spec.specs.text.Lines.{MailboxLine, FrameLine, ThreadLine, Lines}
use Rattle.pat_checkpoint_spec.specs.text.CheckpointText.{line, marker, next_text, mailbox_text, message_text, thread_text, frame_text, frames_text, thread_lines_text, mailboxes_text, messages_text, threads_text, lines_text}
use Rattle.pat_checkpoint_spec.specs.text.LineReading.{lines_with, read_next, read_mailbox, read_message, read_thread, read_frame, is_next, is_none, add_mailbox, with_mailbox, add_message, with_message, add_thread, with_thread, framed, add_frame, with_frame, thread_by, message_by, mailbox_by, with_line}
use Rattle.pat_checkpoint_spec.specs.text.Reading.{ReadsTo, first, another}
use Rattle.pat_checkpoint_laws.specs.text.Readable.{is_control, is_cert, is_mailbox_line, is_message_line, is_frame_line, is_thread_line, ascend, AreReadable}
use Rattle.pat_checkpoint_laws.proofs.LinesSpelled.{next_spelled, mailbox_spelled, message_spelled, thread_spelled, frame_spelled}
use Rattle.pat_checkpoint_laws.proofs.Orders.{next_ascends, none_is}

-- what the lines make once one more is read
record OneMore (p : Program) (x : Lines) (bytes : List ℕ) (y : Lines) : Type 0 where
  text : lines_text p y ≡ lines_text p x ++ line bytes
  readable : AreReadable p x → AreReadable p y

-- five texts, and one more behind them
ends : (a b c d e l : List ℕ) → a ++ (b ++ (c ++ (d ++ (e ++ l)))) ≡ (a ++ (b ++ (c ++ (d ++ e)))) ++ l
ends a b c d e l =
    sym (append_assoc a (b ++ (c ++ (d ++ e))) l ∙ ap (λ w. a ++ w) (append_assoc b (c ++ (d ++ e)) l ∙ ap (λ w. b ++ w) (append_assoc c (d ++ e) l ∙ ap (λ w. c ++ w) (append_assoc d e l))))

module _ (p : Program) (x : Lines) where
  abbrev M : List ℕ
  M = line marker

  abbrev N : List ℕ
  N = line (next_text x)

  abbrev B : List ℕ
  B = mailboxes_text p x.mailboxes

  abbrev E : List ℕ
  E = messages_text p x.mailboxes x.messages

  abbrev T : List ℕ
  T = threads_text x.threads

  mailbox_more : (bytes : List ℕ) (y : Lines) → with_mailbox p x bytes ≡ Some y → OneMore p x (codes "mailbox " ++ bytes) y
  mailbox_more bytes y e =
      let k = taken (is_none x.messages && is_none x.threads) (option_and_then (add_mailbox x) (read_mailbox p bytes)) y e in
      let none = and_parts (is_none x.messages) (is_none x.threads) k.0 in
      let no_messages = none_is x.messages none.0 in
      let no_threads = none_is x.threads none.1 in
      let m = made_next (add_mailbox x) (read_mailbox p bytes) y k.1 in
      let ms : List MailboxLine = x.mailboxes ++ m.from ∷ [] in
      let z : Lines = record x { mailboxes = ms } in
      let l = taken (is_next (map (λ j. j.number) x.mailboxes) m.from.number) (Some z) y m.is in
      let same : z ≡ y = cc in
      let s = mailbox_spelled p bytes m.from m.there in
      let L = line (codes "mailbox " ++ bytes) in
      let own : L ≡ line (mailbox_text p m.from) = ap line s.0 in
      let nothing : (js : List MailboxLine) → messages_text p js x.messages ++ T ≡ [] = λ js. ap (λ es. messages_text p js es ++ T) no_messages ∙ ap threads_text no_threads in
      let more : mailboxes_text p ms ≡ B ++ L = flat_map-append (λ j. line (mailbox_text p j)) x.mailboxes (m.from ∷ []) ∙ ap (λ w. B ++ w) (append-nil (line (mailbox_text p m.from)) ∙ sym own) in
      subst (OneMore p x (codes "mailbox " ++ bytes)) same (record {
        text = ap (λ w. M ++ (N ++ (mailboxes_text p ms ++ w))) (nothing ms)
            ∙ ap (λ w. M ++ (N ++ w)) (append-nil (mailboxes_text p ms) ∙ more)
            ∙ ap (λ w. M ++ (N ++ (B ++ w))) (ap (λ w. w ++ L) (sym (nothing x.mailboxes)) ∙ append_assoc E T L)
            ∙ ends M N B E T L;
        readable = λ r. record {
          next_thread = r.next_thread;
          next_mailbox = r.next_mailbox;
          next_message = r.next_message;
          mailboxes_ascend = subst (λ ks. ascend ks ≡ true) (sym (map-append (λ j. j.number) x.mailboxes (m.from ∷ []))) (next_ascends (map (λ j. j.number) x.mailboxes) m.from.number r.mailboxes_ascend l.0);
          mailboxes = all_last (is_mailbox_line p) x.mailboxes m.from r.mailboxes s.1;
          messages_ascend = r.messages_ascend;
          messages = subst (λ es. list_all (is_message_line p ms) es ≡ true) (sym no_messages) refl;
          threads_ascend = r.threads_ascend;
          threads = r.threads;
        };
      })

  message_more : (bytes : List ℕ) (y : Lines) → with_message p x bytes ≡ Some y → OneMore p x (codes "message " ++ bytes) y
  message_more bytes y e =
      let k = taken (is_none x.threads) (option_and_then (add_message x) (read_message p x.mailboxes bytes)) y e in
      let no_threads = none_is x.threads k.0 in
      let m = made_next (add_message x) (read_message p x.mailboxes bytes) y k.1 in
      let es : List Message = x.messages ++ m.from ∷ [] in
      let z : Lines = record x { messages = es } in
      let l = taken (is_next (map (λ j. j.number) x.messages) m.from.number) (Some z) y m.is in
      let same : z ≡ y = cc in
      let s = message_spelled p x.mailboxes bytes m.from m.there in
      let L = line (codes "message " ++ bytes) in
      let own : L ≡ line (message_text p x.mailboxes m.from) = ap line s.0 in
      let nothing : T ≡ [] = ap threads_text no_threads in
      let more : messages_text p x.mailboxes es ≡ E ++ L = flat_map-append (λ j. line (message_text p x.mailboxes j)) x.messages (m.from ∷ []) ∙ ap (λ w. E ++ w) (append-nil (line (message_text p x.mailboxes m.from)) ∙ sym own) in
      subst (OneMore p x (codes "message " ++ bytes)) same (record {
        text = ap (λ w. M ++ (N ++ (B ++ (messages_text p x.mailboxes es ++ w)))) nothing
            ∙ ap (λ w. M ++ (N ++ (B ++ w))) (append-nil (messages_text p x.mailboxes es) ∙ more)
            ∙ ap (λ w. M ++ (N ++ (B ++ (E ++ (w ++ L))))) (sym nothing)
            ∙ ends M N B E T L;
        readable = λ r. record {
          next_thread = r.next_thread;
          next_mailbox = r.next_mailbox;
          next_message = r.next_message;
          mailboxes_ascend = r.mailboxes_ascend;
          mailboxes = r.mailboxes;
          messages_ascend = subst (λ ks. ascend ks ≡ true) (sym (map-append (λ j. j.number) x.messages (m.from ∷ []))) (next_ascends (map (λ j. j.number) x.messages) m.from.number r.messages_ascend l.0);
          messages = all_last (is_message_line p x.mailboxes) x.messages m.from r.messages s.1;
          threads_ascend = r.threads_ascend;
          threads = r.threads;
        };
      })

  thread_more : (bytes : List ℕ) (y : Lines) → with_thread p x bytes ≡ Some y → OneMore p x (codes "thread " ++ bytes) y
  thread_more bytes y e =
      let m = made_next (add_thread x) (read_thread p bytes) y e in
      let ts : List ThreadLine = x.threads ++ m.from ∷ [] in
      let z : Lines = record x { threads = ts } in
      let l = taken (is_next (map (λ j. j.number) x.threads) m.from.number) (Some z) y m.is in
      let same : z ≡ y = cc in
      let s = thread_spelled p bytes m.from m.there in
      let L = line (codes "thread " ++ bytes) in
      let own : thread_lines_text m.from ≡ L = ap (λ fs. line (thread_text m.from) ++ frames_text fs) s.alone ∙ append-nil (line (thread_text m.from)) ∙ ap line (sym s.text) in
      let more : threads_text ts ≡ T ++ L = flat_map-append thread_lines_text x.threads (m.from ∷ []) ∙ ap (λ w. T ++ w) (append-nil (thread_lines_text m.from) ∙ own) in
      subst (OneMore p x (codes "thread " ++ bytes)) same (record {
        text = ap (λ w. M ++ (N ++ (B ++ (E ++ w)))) more ∙ ends M N B E T L;
        readable = λ r. record {
          next_thread = r.next_thread;
          next_mailbox = r.next_mailbox;
          next_message = r.next_message;
          mailboxes_ascend = r.mailboxes_ascend;
          mailboxes = r.mailboxes;
          messages_ascend = r.messages_ascend;
          messages = r.messages;
          threads_ascend = subst (λ ks. ascend ks ≡ true) (sym (map-append (λ j. j.number) x.threads (m.from ∷ []))) (next_ascends (map (λ j. j.number) x.threads) m.from.number r.threads_ascend l.0);
          threads = all_last (is_thread_line p) x.threads m.from r.threads s.taken;
        };
      })

-- the last thread has one frame more
record Framed (p : Program) (ts us : List ThreadLine) (f : FrameLine) : Type 0 where
  text : threads_text us ≡ threads_text ts ++ line (frame_text f)
  numbers : map (λ t. t.number) us ≡ map (λ t. t.number) ts
  taken : list_all (is_thread_line p) ts ≡ true → list_all (is_thread_line p) us ≡ true

frame_taken : (p : Program) (t : ThreadLine) (f : FrameLine) → is_frame_line p f ≡ true → is_thread_line p t ≡ true → is_thread_line p (record t { frames = f ∷ t.frames }) ≡ true
frame_taken p t f g h =
    let a = and_parts (is_number t.number) (is_control p t.control && (is_cert t.cert && list_all (is_frame_line p) t.frames)) h in
    let b = and_parts (is_control p t.control) (is_cert t.cert && list_all (is_frame_line p) t.frames) a.1 in
    let c = and_parts (is_cert t.cert) (list_all (is_frame_line p) t.frames) b.1 in
    let fs = is_frame_line p f && list_all (is_frame_line p) t.frames in
    and_from (is_number t.number) (is_control p t.control && (is_cert t.cert && fs)) a.0 (and_from (is_control p t.control) (is_cert t.cert && fs) b.0 (and_from (is_cert t.cert) fs c.0 (and_from (is_frame_line p f) (list_all (is_frame_line p) t.frames) g c.1)))

framed_spelled : (p : Program) (ts us : List ThreadLine) (f : FrameLine) → is_frame_line p f ≡ true → framed ts f ≡ Some us → Framed p ts us f
framed_spelled p [] us f g e = absurd cc
framed_spelled p (t ∷ []) us f g e =
    let own : List ThreadLine = record t { frames = f ∷ t.frames } ∷ [] in
    let same : own ≡ us = cc in
    let L = line (frame_text f) in
    let K = line (thread_text t) in
    let F = frames_text t.frames in
    subst (λ us. Framed p (t ∷ []) us f) same (record {
      text = append-nil (K ++ (F ++ L)) ∙ sym (append_assoc K F L) ∙ ap (λ w. w ++ L) (sym (append-nil (K ++ F)));
      numbers = refl;
      taken = λ h. let k = and_parts (is_thread_line p t) true h in and_from (is_thread_line p (record t { frames = f ∷ t.frames })) true (frame_taken p t f g k.0) refl;
    })
framed_spelled p (t ∷ v ∷ vs) us f g e =
    let m = made (λ ts. t ∷ ts) (framed (v ∷ vs) f) us e in
    let d = framed_spelled p (v ∷ vs) m.from f g m.there in
    subst (λ us. Framed p (t ∷ v ∷ vs) us f) m.is (record {
      text = ap (λ w. thread_lines_text t ++ w) d.text ∙ sym (append_assoc (thread_lines_text t) (threads_text (v ∷ vs)) (line (frame_text f)));
      numbers = ap (λ ks. t.number ∷ ks) d.numbers;
      taken = λ h. let k = and_parts (is_thread_line p t) (list_all (is_thread_line p) (v ∷ vs)) h in and_from (is_thread_line p t) (list_all (is_thread_line p) m.from) k.0 (d.taken k.1);
    })

frame_more : (p : Program) (x : Lines) (bytes : List ℕ) (y : Lines) → with_frame p x bytes ≡ Some y → OneMore p x (codes "frame " ++ bytes) y
frame_more p x bytes y e =
    let m = made_next (add_frame x) (read_frame p bytes) y e in
    let n = made (λ ts. record x { threads = ts }) (framed x.threads m.from) y m.is in
    let s = frame_spelled p bytes m.from m.there in
    let d = framed_spelled p x.threads n.from m.from s.1 n.there in
    let L = line (codes "frame " ++ bytes) in
    subst (OneMore p x (codes "frame " ++ bytes)) n.is (record {
      text = ap (λ w. M p x ++ (N p x ++ (B p x ++ (E p x ++ w)))) (d.text ∙ ap (λ w. T p x ++ line w) (sym s.0)) ∙ ends (M p x) (N p x) (B p x) (E p x) (T p x) L;
      readable = λ r. record {
        next_thread = r.next_thread;
        next_mailbox = r.next_mailbox;
        next_message = r.next_message;
        mailboxes_ascend = r.mailboxes_ascend;
        mailboxes = r.mailboxes;
        messages_ascend = r.messages_ascend;
        messages = r.messages;
        threads_ascend = subst (λ ks. ascend ks ≡ true) (sym d.numbers) r.threads_ascend;
        threads = d.taken r.threads;
      };
    })

one_more : (p : Program) (x y : Lines) (bytes : List ℕ) → with_line p x bytes ≡ Some y → OneMore p x bytes y
one_more p x y bytes e = mailbox (behind (codes "mailbox ") bytes) refl e
  where
    thread : (o : Option (List ℕ)) → behind (codes "thread ") bytes ≡ o → thread_by p x bytes o ≡ Some y → OneMore p x bytes y
    thread (Some more) b e = subst (λ l. OneMore p x l y) (sym (behind_is [] (codes "thread ") bytes more b)) (thread_more p x more y e)
    thread None b e =
        let m = made_next (with_frame p x) (behind (codes "frame ") bytes) y e in
        subst (λ l. OneMore p x l y) (sym (behind_is [] (codes "frame ") bytes m.from m.there)) (frame_more p x m.from y m.is)

    message : (o : Option (List ℕ)) → behind (codes "message ") bytes ≡ o → message_by p x bytes o ≡ Some y → OneMore p x bytes y
    message (Some more) b e = subst (λ l. OneMore p x l y) (sym (behind_is [] (codes "message ") bytes more b)) (message_more p x more y e)
    message None b e = thread (behind (codes "thread ") bytes) refl e

    mailbox : (o : Option (List ℕ)) → behind (codes "mailbox ") bytes ≡ o → mailbox_by p x bytes o ≡ Some y → OneMore p x bytes y
    mailbox (Some more) b e = subst (λ l. OneMore p x l y) (sym (behind_is [] (codes "mailbox ") bytes more b)) (mailbox_more p x more y e)
    mailbox None b e = message (behind (codes "message ") bytes) refl e

-- ---- the whole text

-- the text of the first two lines
begins : (p : Program) (x : Lines) (line_ rest text body : List ℕ) → cut 10 text ≡ Some (marker, body) → cut 10 body ≡ Some (line_, rest) → read_next line_ ≡ Some x → (text ≡ lines_text p x ++ rest) × AreReadable p x
begins p x own rest text body c d e =
    let n = next_spelled own x e in
    let z : Lines = lines_with x.next_thread x.next_mailbox x.next_message in
    let alone : z ≡ x = n.alone in
    let W = line (next_text x) in
    let whole : text ≡ lines_text p z ++ rest =
    cut_is 10 text (marker, body) c ∙ ap (λ w. marker ++ 10 ∷ w) (cut_is 10 body (own, rest) d ∙ ap (λ w. w ++ 10 ∷ rest) n.text)
    ∙ sym (append_assoc (line marker) (W ++ []) rest ∙ ap (λ w. line marker ++ w) (ap (λ w. w ++ rest) (append-nil W) ∙ append_assoc (next_text x) (10 ∷ []) rest) ∙ append_assoc marker (10 ∷ []) (next_text x ++ 10 ∷ rest)) in
    let good : AreReadable p z = record {
      next_thread = n.next_thread;
      next_mailbox = n.next_mailbox;
      next_message = n.next_message;
      mailboxes_ascend = refl;
      mailboxes = refl;
      messages_ascend = refl;
      messages = refl;
      threads_ascend = refl;
      threads = refl;
    } in
    subst (λ x. (text ≡ lines_text p x ++ rest) × AreReadable p x) alone (whole, good)

pub reads_text : (p : Program) (text : List ℕ) (x : Lines) (rest : List ℕ) → ReadsTo p text x rest → (text ≡ lines_text p x ++ rest) × AreReadable p x
reads_text p text _ _ (first {body = body} {line = own} {rest = rest} {x = x} c d e) = begins p x own rest text body c d e
reads_text p text _ _ (another {x = x} {y = y} {rest = rest} {line = own} {more = more} r c h) =
    let d = reads_text p text x rest r in
    let o = one_more p x y own h in
    (d.0 ∙ ap (λ l. lines_text p x ++ l) (cut_is 10 rest (own, more) c ∙ sym (append_assoc own (10 ∷ []) more)) ∙ sym (append_assoc (lines_text p x) (line own) more) ∙ ap (λ l. l ++ more) (sym o.text), o.readable d.1)
