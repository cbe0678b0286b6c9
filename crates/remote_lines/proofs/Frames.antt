-- No frame is among octets that signs alone make.
use Rattle.std.proofs.Common.{◌≡◌, ◌<◌, ◌/◌, ◌%◌, ℕ, List, [], ◌∷◌, ◌++◌, true, length, refl, sym, ◌∙◌, arith}
use Rattle.std.proofs.lemmas.Bool.Decides.{nat_tests}
use Rattle.std.proofs.lemmas.List.{append_cancel_left}
use Rattle.line_carriers.specs.declared.sign.Sign.{Sign}
use Rattle.line_carriers.specs.declared.carrier.Connection.{Connection}
use Rattle.line_carriers.specs.declared.hello.Hello.{Hello}
use Rattle.line_carriers.specs.Wire.{code, is_frame}
use Rattle.line_carriers.specs.Laws.{Entry, a_frame, a_sign, forms}
use Rattle.line_carriers.specs.Opening.{signs_form}
use Rattle.line_carriers.specs.CutOff.{met, after_deeds, unread, CutOffLaw}
use Rattle.remote_lines.specs.Restart.{frames_of, AreEntries, AreOnWay, RestartLaw}

-- a frame that can be sent does not begin as a sign does
not_sign : (octets : List ℕ) → is_frame octets ≡ true → length octets / 256 ≡ 0 → length octets % 256 ≡ 0 → ⊥
not_sign octets is high low =
    let some : 0 < length octets = grind (arith, nat_tests) in
    omega (arith, some, high, low)

no_frames : (entries : List Entry) (signs : List Sign) → AreEntries entries → forms entries ≡ signs_form signs
    → frames_of entries ≡ []
no_frames [] signs are same = refl
no_frames (a_frame octets ∷ entries) [] are same =
    let same' : length octets / 256 ∷ length octets % 256 ∷ (octets ++ forms entries) ≡ [] = same in absurd (cc)
no_frames (a_frame octets ∷ entries) (it ∷ signs) are same =
    let same' : length octets / 256 ∷ length octets % 256 ∷ (octets ++ forms entries) ≡ 0 ∷ 0 ∷ code it ∷ signs_form signs = same in
    let high : length octets / 256 ≡ 0 = cc in
    let low : length octets % 256 ≡ 0 = cc in
    absurd (not_sign octets are.0 high low)
no_frames (a_sign it ∷ entries) [] are same =
    let same' : 0 ∷ 0 ∷ code it ∷ forms entries ≡ [] = same in absurd (cc)
no_frames (a_sign it ∷ entries) (other ∷ signs) are same =
    let same' : 0 ∷ 0 ∷ code it ∷ forms entries ≡ 0 ∷ 0 ∷ code other ∷ signs_form signs = same in
    let rest : forms entries ≡ signs_form signs = cc in
    no_frames entries signs are.1 rest

none_on_way : (connection : Connection) (hello : Hello) (octets : List ℕ) (signs : List Sign) (frames : List (List ℕ))
    → octets ≡ unread connection hello ++ signs_form signs → AreOnWay connection hello octets frames → frames ≡ []
none_on_way connection hello octets signs frames quiet on =
    on.frames_are
    ∙ no_frames on.entries signs on.sent
    (append_cancel_left (unread connection hello) (forms on.entries) (signs_form signs) (sym on.form ∙ quiet))

pub restarts : CutOffLaw → RestartLaw
restarts law a b deeds of_a of_b waits here there =
    let off = law a b deeds of_a of_b waits here there in
    let p = after_deeds (met a b) deeds in
    record {
      out = λ frames on. none_on_way p.partner.connection a.hello _ off.out_signs frames off.out on;
      back = λ frames on. none_on_way p.starter.connection b.hello _ off.back_signs frames off.back on;
      closed = off.closed;
    }
