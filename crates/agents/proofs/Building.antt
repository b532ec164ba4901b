-- A memory that was built keeps what every scripted memory keeps.
use Rattle.std.proofs.Common.{◌≡◌, ℕ, ◌+◌, ◌*◌, ◌%◌, ◌<◌, ◌≤◌, List, [], map, length, sym, refl, ap, ◌∙◌, subst, arith}
use Rattle.port.proofs.Steps.{same_state}
use Rattle.port.proofs.Waiting.{due_below, legal_reset, whole}
use Rattle.agents.specs.Building.{Buildable, Built, numbers_of}
use Rattle.agents.specs.Memory.{lefts, state_of}
use Rattle.agents.specs.Queue.{items, room}
use Rattle.agents.specs.Scripts.{InPlace, greatest_of, listed, place_of, value_now}
use Rattle.agents.specs.Timing.{Patient}
use Rattle.agents.specs.declared.lanes.Bytes.{Bytes}
use Rattle.agents.specs.declared.memory.Parts.{Parts}
use Rattle.agents.specs.declared.memory.ReadBurst.{ReadBurst}
use Rattle.agents.specs.declared.queue.Ring.{Ring}
use Rattle.agents.specs.declared.script.Script.{Script}
use Rattle.port.specs.Lanes.{byte_in}
use Rattle.port.specs.Legal.{Legal, tally}
use Rattle.port.specs.State.{Ranges, reset}
use Rattle.port.specs.Widths.{Wide}
use Rattle.port.specs.declared.numbers.Numbers.{Numbers}
use Rattle.port.specs.declared.record.PortRecord.{PortRecord}

-- the parts of a memory
abbrev pub parts : Bytes → (waits gaps : Script) → Ring ℕ → Ring ReadBurst → PortRecord → InPlace waits → InPlace gaps → Parts
parts bytes waits gaps words bursts plain waits_in gaps_in =
    record { bytes = bytes; waits = waits; gaps = gaps; words = words; bursts = bursts; plain = plain; waits_in = waits_in; gaps_in = gaps_in }

-- what the constructor puts together
pub record Laid (w : ℕ) (image wait-list gap-list : List ℕ) (b p words_places bursts_places : ℕ) (n : Numbers) (bytes : Bytes) (waits gaps : Script) (words : Ring ℕ) (bursts : Ring ReadBurst) : Type 0 where
  pub wide : Wide w
  pub may : Buildable (length image) (length wait-list) (length gap-list) words_places bursts_places b p
  pub numbers : n ≡ numbers_of w (length image) wait-list gap-list b p
  pub small : (n.wait_bound ≤ 100000000) × (n.silence_bound ≤ 100000000)
  pub memory : bytes.all.now ≡ image
  pub are_bytes : (address : ℕ) → byte_in bytes.all.now address < 256
  pub words_none : items words ≡ []
  pub words_room : room words ≡ words_places
  pub bursts_none : items bursts ≡ []
  pub bursts_room : room bursts ≡ bursts_places
  pub waits_are : listed waits ≡ wait-list
  pub waits_at : place_of waits ≡ 0
  pub gaps_are : listed gaps ≡ gap-list
  pub gaps_at : place_of gaps ≡ 0

ranges_of : (w : ℕ) (image wait-list gap-list : List ℕ) (b p words bursts : ℕ) → Wide w → Buildable (length image) (length wait-list) (length gap-list) words bursts b p →
    (numbers_of w (length image) wait-list gap-list b p).wait_bound ≤ 100000000 → greatest_of gap-list ≤ 100000000 → Ranges (numbers_of w (length image) wait-list gap-list b p)
ranges_of w image wait-list gap-list b p words bursts wide may patient prompt =
    let all = whole w (length image) wide may.eights in
    record {
      wide = wide;
      eights = ap (λ k. k % 8) all ∙ may.eights;
      some = omega (arith, all, may.some);
      few = omega (arith, all, may.few);
      beats_some = may.beats_some;
      beats_few = may.beats_few;
      pending_some = may.pending_some;
      pending_few = may.pending_few;
      patient = patient;
      prompt = prompt;
    }

built_of : (w : ℕ) (image wait-list gap-list : List ℕ) (b p words_places bursts_places : ℕ) (bytes : Bytes) (waits gaps : Script) (words : Ring ℕ) (bursts : Ring ReadBurst) (waits_in : InPlace waits) (gaps_in : InPlace gaps) →
    Laid w image wait-list gap-list b p words_places bursts_places (numbers_of w (length image) wait-list gap-list b p) bytes waits gaps words bursts →
    Built w image wait-list gap-list b p (parts bytes waits gaps words bursts (tally (numbers_of w (length image) wait-list gap-list b p) (reset image)) waits_in gaps_in)
built_of w image wait-list gap-list b p words_places bursts_places bytes waits gaps words bursts waits_in gaps_in laid =
    let n = numbers_of w (length image) wait-list gap-list b p in
    let may = laid.may in
    let all = whole w (length image) laid.wide may.eights in
    let ranges = ranges_of w image wait-list gap-list b p words_places bursts_places laid.wide may laid.small.0 laid.small.1 in
    let legal = legal_reset n image ranges (sym all) (subst (λ memory. (address : ℕ) → byte_in memory address < 256) laid.memory laid.are_bytes) in
    let reads : lefts bursts ≡ [] = ap (λ xs. map (λ r. r.left) xs) laid.bursts_none in
    let m = parts bytes waits gaps words bursts (tally n (reset image)) waits_in gaps_in in
    let e : state_of m ≡ reset image = same_state (reset image) bytes.all.now (items words) (lefts bursts) laid.memory laid.words_none reads in
    let due = due_below n.pending_limit n.silence_bound 0 n.burst_limit [] tt in
    record {
      sound = record {
        words_room = omega (arith, may.words_room, laid.words_room);
        bursts_room = omega (arith, may.bursts_room, laid.bursts_room);
        tallied = ap (tally n) (sym e);
        legal = subst (Legal n) (sym e) legal;
        prompt = ap greatest_of (sym laid.gaps_are);
        patient = ap (λ xs. greatest_of xs + n.burst_limit * (n.silence_bound + 1)) (sym laid.waits_are);
        waiting = subst (λ t. Patient n t (value_now waits)) (sym e) (omega (arith, due));
      };
      numbers = refl;
      state = e;
      waits = laid.waits_are;
      waits_at = laid.waits_at;
      gaps = laid.gaps_are;
      gaps_at = laid.gaps_at;
    }

pub built : (w : ℕ) (image wait-list gap-list : List ℕ) (b p words_places bursts_places : ℕ) (n : Numbers) (bytes : Bytes) (waits gaps : Script) (words : Ring ℕ) (bursts : Ring ReadBurst) (plain : PortRecord) (waits_in : InPlace waits) (gaps_in : InPlace gaps) →
    Laid w image wait-list gap-list b p words_places bursts_places n bytes waits gaps words bursts → plain ≡ tally n (reset image) →
    Built w image wait-list gap-list b p (parts bytes waits gaps words bursts plain waits_in gaps_in)
built w image wait-list gap-list b p words_places bursts_places n bytes waits gaps words bursts plain waits_in gaps_in laid e =
    let f : n ≡ numbers_of w (length image) wait-list gap-list b p = laid.numbers in
    let g : plain ≡ tally (numbers_of w (length image) wait-list gap-list b p) (reset image) = e ∙ ap (λ k. tally k (reset image)) f in
    subst (λ q. Built w image wait-list gap-list b p (parts bytes waits gaps words bursts q waits_in gaps_in)) (sym g)
    (built_of w image wait-list gap-list b p words_places bursts_places bytes waits gaps words bursts waits_in gaps_in
    (subst (λ k. Laid w image wait-list gap-list b p words_places bursts_places k bytes waits gaps words bursts) f laid))
