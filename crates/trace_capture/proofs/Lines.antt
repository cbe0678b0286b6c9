-- Lines that were read, and those that are left.
use Rattle.std.specs.Prelude.{◌≡◌, ℕ, List, [], ◌∷◌, ◌++◌, ◌%◌, ◌/◌, ◌+◌, ◌*◌, Option, Some, None, false, true, length}
use Rattle.std.proofs.lemmas.List.{append_assoc, append-nil}
use Rattle.std.proofs.Math.Nat.{mod-add-div, add-mul-mod_self_left}
use Rattle.std.proofs.Common.{◌∙◌, sym, ap, subst, refl, arith, length-append}
use Rattle.frame_lines.specs.declared.line.Direction.{Direction}
use Rattle.trace_capture.specs.Trace.{is_traced, frame_line, IsFrameLine}
use Rattle.trace_capture.specs.declared.fault.TraceFault.TheVariants.{Line}
use Rattle.trace_capture.specs.Capture.{IsTraceFault}
use Rattle.trace_capture.specs.Capture.IsTraceFault.{no_frame}
use Rattle.trace_capture.specs.Lines.{AreLines, first_line, behind_line}
use Rattle.trace_capture.specs.Lines.AreLines.{none as no_lines, one_more}
use Rattle.trace_capture.specs.Capture.{HasBlocks, IsCapture, head, block, packet_body}
use Rattle.trace_capture.specs.Capture.AreBlocks.{none as no_blocks, other as other_line, frame as frame_there}

-- some lines of the text were read, the last one has this number, and the capture has the blocks of these
pub record Reads (text : List ℕ) (rest : Option (List ℕ)) (number count : ℕ) (capture : List ℕ) : Type 0 where
  pub read : List (List ℕ)
  pub whole : (left : List (List ℕ)) → AreLines rest left → AreLines (Some text) (read ++ left)
  pub numbered : number ≡ length read % 4294967296
  pub has_blocks : HasBlocks read count capture

-- a number that counts on counts so many modulo 2^32
counts_on : (n m : ℕ) → (n % m + 1) % m ≡ (n + 1) % m
counts_on n m =
    let e : (n % m + 1) + m * (n / m) ≡ n + 1 = omega (arith, mod-add-div n m) in
    sym (add-mul-mod_self_left (n % m + 1) m (n / m)) ∙ ap (λ k. k % m) e

-- one line more has the next number
next_number : (number : ℕ) (read : List (List ℕ)) (line : List ℕ) → number ≡ length read % 4294967296
    → (number + 1) % 4294967296 ≡ length (read ++ line ∷ []) % 4294967296
next_number number read line is =
    ap (λ n. (n + 1) % 4294967296) is ∙ counts_on (length read) 4294967296
    ∙ ap (λ n. n % 4294967296) (sym (length-append read (line ∷ [])))

pub begins : (text capture : List ℕ) → capture ≡ head → Reads text (Some text) 0 0 capture
begins text capture e = record {
  read = [];
  whole = λ left are. are;
  numbered = refl;
  has_blocks = record { blocks = []; are_blocks = no_blocks; whole = e ∙ sym (append-nil head) };
}

-- one line more is read
further : (text : List ℕ) (read : List (List ℕ)) (rest line : List ℕ) → line ≡ first_line rest
    → ((left : List (List ℕ)) → AreLines (Some rest) left → AreLines (Some text) (read ++ left))
    → (left : List (List ℕ)) → AreLines (behind_line rest) left → AreLines (Some text) ((read ++ line ∷ []) ++ left)
further text read rest line is whole left are =
    subst (λ ls. AreLines (Some text) ls) (sym (append_assoc read (line ∷ []) left))
    (subst (λ l. AreLines (Some text) (read ++ l ∷ left)) (sym is)
    (whole (first_line rest ∷ left) (one_more rest are)))

pub passes : (text rest : List ℕ) (number count : ℕ) (capture line : List ℕ)
    → Reads text (Some rest) number count capture → line ≡ first_line rest → is_traced line ≡ false
    → Reads text (behind_line rest) ((number + 1) % 4294967296) count capture
passes text rest number count capture line r is other = record {
  read = r.read ++ line ∷ [];
  whole = further text r.read rest line is r.whole;
  numbered = next_number number r.read line r.numbered;
  has_blocks = record {
    blocks = r.has_blocks.blocks;
    are_blocks = other_line line other r.has_blocks.are_blocks;
    whole = r.has_blocks.whole;
  };
}

pub pushes : (text rest : List ℕ) (number count : ℕ) (capture after digits octets : List ℕ) (direction : Direction)
    → Reads text (Some rest) number count capture → frame_line digits direction octets ≡ first_line rest
    → after ≡ capture ++ block 6 (packet_body count digits direction octets)
    → Reads text (behind_line rest) ((number + 1) % 4294967296) ((count + 1) % 4294967296) after
pushes text rest number count capture after digits octets direction r is pushed = record {
  read = r.read ++ frame_line digits direction octets ∷ [];
  whole = further text r.read rest (frame_line digits direction octets) is r.whole;
  numbered = next_number number r.read (frame_line digits direction octets) r.numbered;
  has_blocks = record {
    blocks = r.has_blocks.blocks ++ block 6 (packet_body count digits direction octets);
    are_blocks = frame_there digits direction octets r.has_blocks.are_blocks;
    whole = pushed ∙ ap (λ c. c ++ block 6 (packet_body count digits direction octets)) r.has_blocks.whole
        ∙ append_assoc head r.has_blocks.blocks (block 6 (packet_body count digits direction octets));
  };
}

-- a line that is no frame's ends the reading
pub refuses : (text rest : List ℕ) (number count : ℕ) (capture line : List ℕ)
    → Reads text (Some rest) number count capture → line ≡ first_line rest → is_traced line ≡ true → ¬ IsFrameLine line
    → IsTraceFault text (Line ((number + 1) % 4294967296))
refuses text rest number count capture line r is traced no_line =
    no_frame (λ left are. subst (λ l. AreLines (Some text) (r.read ++ l ∷ left)) (sym is)
    (r.whole (first_line rest ∷ left) (one_more rest are))) r.has_blocks.are_blocks traced no_line
    (ap (λ n. (n + 1) % 4294967296) r.numbered ∙ counts_on (length r.read) 4294967296)

pub ends : (text : List ℕ) (number count : ℕ) (capture : List ℕ) → Reads text None number count capture
    → IsCapture text capture
ends text number count capture r = record {
  lines = r.read;
  are_lines = subst (λ ls. AreLines (Some text) ls) (append-nil r.read) (r.whole [] no_lines);
  count = count;
  has_blocks = r.has_blocks;
}
