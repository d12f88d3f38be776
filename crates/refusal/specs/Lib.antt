pub mod Refusal
pub mod RefusalLaws
pub mod Answers
pub mod AnswerLaws
